use Rattle.std.proofs.Common.{◌++◌, ◌+◌, ◌-◌, replicate, arith, rules, add-one, ap}
use Rattle.std.specs.Prelude.{codes}
use Rattle.pj_grammar.specs.Lexemes.{is_keyword}
use Rattle.pj_grammar.specs.parsing.Words.{keyword_at}
use Rattle.pj_phrase.proofs.ManyLoop.{going-step, replicate-cons}
use Rattle.pj_phrase.proofs.values.nots.nots.Goals as goal

pub nots-preserved : goal.nots-preserved
nots-preserved c =
    let now = c.len-i-end.result - c.nots._i in
    let next = c.len-i-end.result - (c.nots._i + 1) in
    record {
      count = ap (λ n. n + 1) c.nots.invariant.count;
      read =
          going-step (λ more. replicate c.nots.count tt ++ more)
          (λ more. replicate (c.nots.count + 1) tt ++ more) now next
          (is_keyword (codes "NOT")) (keyword_at (codes "NOT")) _ _ tt _ c.nots.invariant.read
          (λ more. rw add-one (replicate-cons c.nots.count more)) (omega arith) (search rules)
          c.in_ok-rest.ensures;
    }
