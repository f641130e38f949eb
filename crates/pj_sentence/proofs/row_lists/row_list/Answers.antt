use Rattle.std.proofs.Common.{◌+◌, ◌-◌, ap, arith, rules}
use Rattle.pj_grammar.specs.RowLayout.{WithBegun}
use Rattle.pj_grammar.specs.parsing.Statements.{row_at}
use Rattle.pj_phrase.proofs.ManyLoop.{list-step}
use Rattle.pj_sentence.proofs.row_lists.row_list.Goals as goal

pub rows-preserved : goal.rows-preserved
rows-preserved c =
    let now = c.len-i-end.result - c.rows._i in
    let next = c.len-i-end.result - (c.rows._i + 1) in (
      rw (ap (λ (r : WithBegun). r.whole) c.in_ok-end_row-2.ensures, c.in_ok-rest-2.ensures.whole)
          (list-step row_at now next _ _ _ _ _ _ c.rows.invariant.0 (omega arith) (search rules)
          c.in_ok-behind.ensures c.in_ok-rest-2.ensures.read),
      ap (λ (r : WithBegun). r.begun) c.in_ok-end_row-2.ensures,
    )
