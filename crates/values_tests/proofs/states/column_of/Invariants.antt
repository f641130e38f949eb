use Rattle.std.proofs.Common.{◌≡◌, length}
use Rattle.values_tests.proofs.states.column_of.Given as goal

abbrev pub invariant-texts : goal.invariant-texts
invariant-texts l = length l.held.items ≡ l.bytes-index
