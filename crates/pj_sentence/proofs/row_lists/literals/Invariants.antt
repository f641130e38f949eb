use Rattle.std.proofs.Common.{◌≡◌, ◌-◌}
use Rattle.pj_grammar.specs.parsing.Statements.{literal_at, literals_at}
use Rattle.pj_phrase.proofs.ManyLoop.{list_going}
use Rattle.pj_sentence.proofs.row_lists.literals.Given as goal

abbrev pub invariant-values : goal.invariant-values
invariant-values l =
    (list_going literal_at l.rows.begun (l._i-end - l._i) l.rest ≡ literals_at l.fn.rest)
    × (l.rows.whole ≡ l.fn.rows.whole)
