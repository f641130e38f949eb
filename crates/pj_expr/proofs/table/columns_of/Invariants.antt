use Rattle.std.proofs.Common.{◌≡◌, take}
use Rattle.pj_expr.proofs.table.columns_of.Given as goal

abbrev pub invariant-columns : goal.invariant-columns
invariant-columns l = l.copy.items ≡ take l.column-index l.columns
