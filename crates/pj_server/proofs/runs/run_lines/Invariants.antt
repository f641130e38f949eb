use Rattle.std.proofs.Common.{◌≡◌}
use Rattle.pj_server.specs.declared.ending.End.TheVariants.{Finished}
use Rattle.pj_server.specs.RunLines.{RunsLines}
use Rattle.pj_server.specs.PortFaults.{counted}
use Rattle.pj_server.proofs.runs.run_lines.Given as goal

abbrev pub invariant-lines : goal.invariant-lines
invariant-lines g l =
    RunsLines g.P.Blob.Kept.tells Finished l.line-index l.initial.server l.server l.names l.lines
    (g.W.Sink.taken l.initial.sink) (g.W.Sink.taken l.sink)
    (counted (g.P.Port.faults l.initial.port) (g.P.Port.reads l.initial.port)) (counted (g.P.Port.faults l.port) (g.P.Port.reads l.port))
    × (g.W.Sink.faults l.sink ≡ g.W.Sink.faults l.initial.sink)
