use Rattle.std.proofs.Common.{◌≡◌, map, take}
use Rattle.pj_value.specs.Layout.{gathered}
use Rattle.pj_value.proofs.columns.gather_columns.Given as goal

abbrev pub invariant-loop-column : goal.invariant-loop-column
invariant-loop-column l = l.found.items ≡ map (gathered l.indexes) (take l.column-index l.columns)
