use Rattle.std.proofs.Common.{◌≡◌, take}
use Rattle.pj_bind.specs.Filling.{column_names}
use Rattle.pj_bind.proofs.names.names_of.Given as goal

abbrev pub invariant-columns : goal.invariant-columns
invariant-columns l = l.names.items ≡ column_names (take l.column-index l.columns)
