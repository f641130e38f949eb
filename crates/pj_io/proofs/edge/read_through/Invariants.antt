-- A read that failed took nothing.
use Rattle.std.proofs.Common.{◌≡◌, length}
use Rattle.std.specs.Io.KnownBytes.{Keeps}
use Rattle.pj_io.proofs.edge.read_through.Given as goal

abbrev pub invariant-turns : goal.invariant-turns
invariant-turns g l =
    (length l.into ≡ length l.initial.into)
    × Keeps (g.R.Read.remaining l.initial.reader) (g.R.Read.remaining l.reader)
