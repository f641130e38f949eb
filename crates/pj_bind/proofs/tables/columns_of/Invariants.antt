use Rattle.std.proofs.Common.{◌≡◌, map, take}
use Rattle.pj_bind.specs.Tables.{column_of}
use Rattle.pj_bind.proofs.tables.columns_of.Given as goal

abbrev pub invariant-columns : goal.invariant-columns
invariant-columns l = l.defs.items ≡ map column_of (take l.column-index l.columns)
