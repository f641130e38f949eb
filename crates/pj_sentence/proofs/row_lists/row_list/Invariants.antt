use Rattle.std.proofs.Common.{◌≡◌, ◌-◌, []}
use Rattle.pj_grammar.specs.parsing.Statements.{row_at, rows_at}
use Rattle.pj_phrase.proofs.ManyLoop.{list_going}
use Rattle.pj_sentence.proofs.row_lists.row_list.Given as goal

abbrev pub invariant-rows : goal.invariant-rows
invariant-rows l =
    (list_going row_at l.rows.whole (l._i-end - l._i) l.rest ≡ rows_at l.fn.rest) × (l.rows.begun ≡ [])
