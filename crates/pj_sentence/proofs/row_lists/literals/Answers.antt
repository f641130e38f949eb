use Rattle.std.proofs.Common.{◌+◌, ◌-◌, ap, arith, rules, ◌∙◌}
use Rattle.pj_grammar.specs.RowLayout.{WithBegun}
use Rattle.pj_grammar.specs.parsing.Statements.{literal_at}
use Rattle.pj_phrase.proofs.ManyLoop.{list-step}
use Rattle.pj_sentence.proofs.row_lists.literals.Goals as goal

pub values-preserved : goal.values-preserved
values-preserved c =
    let now = c.len-i-end.result - c.values._i in
    let next = c.len-i-end.result - (c.values._i + 1) in (
      rw (ap (λ (r : WithBegun). r.begun) c.in_ok-push-2.ensures)
          (list-step literal_at now next _ _ _ _ _ _ c.values.invariant.0 (omega arith) (search rules)
          c.in_ok-behind.ensures c.in_ok-one.ensures),
      ap (λ (r : WithBegun). r.whole) c.in_ok-push-2.ensures ∙ c.values.invariant.1,
    )
