use Rattle.std.proofs.Common.{◌≡◌}
use Rattle.pj_narrow.specs.Narrowing.{columns_in}
use Rattle.pj_narrow.proofs.uses.columns_of.Given as goal

abbrev pub invariant-columns : goal.invariant-columns
invariant-columns l = l.columns.items ≡ columns_in l.column l.query
