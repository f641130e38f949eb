use Rattle.std.proofs.Common.{◌≡◌, take}
use Rattle.pj_value.specs.Layout.{joined, columns_of_row}
use Rattle.pj_value.proofs.columns.push_row.Given as goal

abbrev pub invariant-loop-at : goal.invariant-loop-at
invariant-loop-at l = l.columns.items ≡ joined l.initial.columns.items (take l.at (columns_of_row l.row))
