use Rattle.std.proofs.Common.{◌<◌, length, map, ap, sym, ◌∙◌, subst}
use Rattle.std.specs.List.{All, range_with_len}
use Rattle.pj_group.specs.Indexes.{key_values, is_before}
use Rattle.pj_group.specs.Least.{AreFirst}
use Rattle.pj_group.proofs.LineLemmas.{AreFirst-within}
use Rattle.pj_group.proofs.lines.sorted_lines.Goals as goal

pub gather-requires : goal.gather-requires
gather-requires c =
    let before = is_before (map key_values c.args.keys.now) in
    let n = length c.args.lines.rows in
    let all = c.in_ok-indexes.ensures ∙ ap (range_with_len 0) c.len.ensures in
    subst (All (λ k. k < n)) (sym c.as_slice.ensures.value)
    (AreFirst-within before c.args.limit n c.in_ok-first.first.items
    (subst (λ is. AreFirst before c.args.limit is c.in_ok-first.first.items) all c.in_ok-first.ensures))
