use Rattle.std.proofs.Common.{◌≡◌, [], get_or, drop}
use Rattle.pj_answer.specs.Answers.{same_row}
use Rattle.pj_answer.proofs.groups.are_same.Given as goal

abbrev pub invariant-loop-column : goal.invariant-loop-column
invariant-loop-column l =
    same_row (get_or l.rows.rows l.a []) (get_or l.rows.rows l.b [])
    ≡ same_row (drop l.column (get_or l.rows.rows l.a [])) (drop l.column (get_or l.rows.rows l.b []))
