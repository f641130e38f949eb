-- What stands in `bytes` was taken, and each turn takes a byte.
use Rattle.std.proofs.Common.{◌≡◌, ◌≤◌, ◌-◌, length, vec_items}
use Rattle.std.specs.Io.KnownBytes.{Consumes}
use Rattle.pj_io.proofs.transfer.read_all.Given as goal

abbrev pub invariant-pieces : goal.invariant-pieces
invariant-pieces g l = record {
  within : length (vec_items l.bytes) ≤ l.limit;
  taken : Consumes (g.R.Source.left l.initial.source) (g.R.Source.left l.source) (vec_items l.bytes);
  calm : g.R.Source.faults l.source ≡ g.R.Source.faults l.initial.source;
}

abbrev pub decreases-pieces : goal.decreases-pieces
decreases-pieces g l = l.limit - length (vec_items l.bytes)
