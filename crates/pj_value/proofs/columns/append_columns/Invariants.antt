use Rattle.std.proofs.Common.{◌≡◌, take}
use Rattle.pj_value.specs.Columns.{values_of}
use Rattle.pj_value.specs.Layout.{joined}
use Rattle.pj_value.proofs.columns.append_columns.Given as goal

abbrev pub invariant-loop-at : goal.invariant-loop-at
invariant-loop-at l = l.columns.items ≡ joined l.initial.columns.items (take l.at (values_of l.more))
