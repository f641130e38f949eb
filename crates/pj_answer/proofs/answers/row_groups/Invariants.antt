use Rattle.std.proofs.Common.{◌≡◌, ◌∷◌, [], map, take}
use Rattle.pj_answer.specs.Rows.{of_kinds}
use Rattle.pj_answer.proofs.answers.row_groups.Given as goal

abbrev pub invariant-loop-at : goal.invariant-loop-at
invariant-loop-at l = l.groups.items ≡ map (λ row. of_kinds l.held.kinds (row ∷ [])) (take l.at l.held.rows)
