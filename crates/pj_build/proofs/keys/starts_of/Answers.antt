use Rattle.std.proofs.Common.{◌≡◌, ◌*◌, ◌<◌, ◌++◌, ◌∷◌, [], map, ap, sym, subst, ◌∙◌, arith}
use Rattle.std.specs.List.{All, range_with_len}
use Rattle.pj_part.specs.Formed.{granule_count}
use Rattle.pj_build.specs.Keys.{granule_starts}
use Rattle.pj_build.proofs.KeyLemmas.{starts-more, starts-below}
use Rattle.pj_build.proofs.keys.starts_of.Goals as goal

pub granules-preserved : goal.granules-preserved
granules-preserved c =
    c.in_ok-push.ensures.items
    ∙ ap (λ starts. starts ++ c.granules.at * c.args.granularity ∷ []) c.granules.invariant
    ∙ sym (starts-more c.args.granularity c.granules.at)

pub returns-clause-starts : goal.returns-clause-starts
returns-clause-starts c =
    let all : c.granules.at ≡ granule_count c.args.granularity c.args.rows =
    omega (arith, c.granules-test.false, c.granules.auto.at-end, c.div_ceil-count.ensures) in
    c.granules.invariant ∙ ap (λ n. map (λ at. at * c.args.granularity) (range_with_len 0 n)) all

pub returns-clause-within : goal.returns-clause-within
returns-clause-within c =
    let all : c.granules.at ≡ granule_count c.args.granularity c.args.rows =
    omega (arith, c.granules-test.false, c.granules.auto.at-end, c.div_ceil-count.ensures) in
    let starts : c.granules.starts.items ≡ granule_starts c.args.granularity c.args.rows =
    c.granules.invariant ∙ ap (λ n. map (λ at. at * c.args.granularity) (range_with_len 0 n)) all in
    subst (All (λ at. at < c.args.rows)) (sym starts) (starts-below c.args.granularity c.args.rows c.requires)
