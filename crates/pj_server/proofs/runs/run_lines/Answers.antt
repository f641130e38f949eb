use Rattle.std.proofs.Common.{◌+◌, ◌∙◌, arith}
use Rattle.pj_server.specs.declared.ending.End.TheVariants.{Finished}
use Rattle.pj_server.proofs.PlayLemmas.{RunsLines-more}
use Rattle.pj_server.specs.PortFaults.{counted}
use Rattle.pj_server.proofs.runs.run_lines.Goals as goal

pub returns-in_default : goal.returns-in_default
returns-in_default g c =
    let more =
    RunsLines-more c.run_goes_on.ensures c.texts_go_on.ensures g.P.Blob.Kept.tells c.run_line.result
    c.lines.line-index c.args.server.now c.lines.server c.run_line.new.server c.args.names.now
    c.args.lines.now c.line-item.result
    (g.W.Sink.taken c.args.sink.now) (g.W.Sink.taken c.lines.sink) (g.W.Sink.taken c.run_line.new.sink)
    (counted (g.P.Port.faults c.args.port.now) (g.P.Port.reads c.args.port.now)) (counted (g.P.Port.faults c.lines.port) (g.P.Port.reads c.lines.port)) (counted (g.P.Port.faults c.run_line.new.port) (g.P.Port.reads c.run_line.new.port))
    c.lines-test.true c.line-item.is c.lines.invariant.0
    c.run_line.ensures.run in
    record {
      run = (c.lines.line-index + 1, more, λ e. absurd (c.in_default.not-Finished e));
      later = omega (arith, c.lines.invariant.1, c.run_line.ensures.later);
      failed = λ e. let rose = c.run_line.ensures.failed e in omega (arith, c.lines.invariant.1, rose);
      calm = λ other. c.run_line.ensures.calm other ∙ c.lines.invariant.1;
    }

pub lines-preserved : goal.lines-preserved
lines-preserved g c = (
  RunsLines-more c.run_goes_on.ensures c.texts_go_on.ensures g.P.Blob.Kept.tells Finished
      c.lines.line-index c.args.server.now c.lines.server c.run_line.new.server c.args.names.now
      c.args.lines.now c.line-item.result
      (g.W.Sink.taken c.args.sink.now) (g.W.Sink.taken c.lines.sink) (g.W.Sink.taken c.run_line.new.sink)
      (counted (g.P.Port.faults c.args.port.now) (g.P.Port.reads c.args.port.now)) (counted (g.P.Port.faults c.lines.port) (g.P.Port.reads c.lines.port)) (counted (g.P.Port.faults c.run_line.new.port) (g.P.Port.reads c.run_line.new.port))
      c.lines-test.true c.line-item.is c.lines.invariant.0
      c.in-Finished.ensures.run,
  c.in-Finished.ensures.calm (λ e. cc) ∙ c.lines.invariant.1,
)
