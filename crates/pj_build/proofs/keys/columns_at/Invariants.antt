use Rattle.std.proofs.Common.{◌≡◌, map, take}
use Rattle.pj_build.specs.Keys.{column_at}
use Rattle.pj_build.proofs.keys.columns_at.Given as goal

abbrev pub invariant-columns : goal.invariant-columns
invariant-columns l = l.found.items ≡ map (column_at l.rows l.indexes) (take l.column-index l.columns)
