-- What is gone from `rest` was appended, and each turn appends a byte.
use Rattle.std.proofs.Common.{◌≡◌, ℕ, List, ◌++◌, length}
use Rattle.std.specs.Io.KnownBytes.{Appends}
use Rattle.pj_io.proofs.transfer.write_all.Given as goal

abbrev pub invariant-pieces : goal.invariant-pieces
invariant-pieces g l = record {
  appended : (done : List ℕ) × (l.bytes ≡ done ++ l.rest)
      × Appends (g.W.Sink.taken l.initial.sink) (g.W.Sink.taken l.sink) done;
  calm : g.W.Sink.faults l.sink ≡ g.W.Sink.faults l.initial.sink;
}

abbrev pub decreases-pieces : goal.decreases-pieces
decreases-pieces g l = length l.rest
