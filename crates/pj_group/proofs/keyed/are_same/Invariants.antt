use Rattle.std.proofs.Common.{◌≡◌, drop}
use Rattle.pj_answer.specs.Answers.{same_row}
use Rattle.pj_group.proofs.keyed.are_same.Given as goal

abbrev pub invariant-loop-at : goal.invariant-loop-at
invariant-loop-at g l =
    same_row (g.A.Cells.key l.a) (g.B.Cells.key l.b)
    ≡ same_row (drop l.at (g.A.Cells.key l.a)) (drop l.at (g.B.Cells.key l.b))
