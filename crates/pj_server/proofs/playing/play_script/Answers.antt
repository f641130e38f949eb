use Rattle.pj_server.proofs.PlayLemmas.{script_ends}
use Rattle.pj_server.specs.PortFaults.{counted}
use Rattle.pj_server.proofs.playing.play_script.Goals as goal

pub returns-clause-ends : goal.returns-clause-ends
returns-clause-ends g c =
    let ran = c.run_lines-lines.ensures.run in
    let lines = rw (c.new-server.ensures, c.as_slice.ensures, c.as_slice-2.ensures) at ran.1 in
    let all = rw c.as_slice-2.ensures at ran.2 in
    let ends =
    script_ends c.runs_are_legal.ensures c.cut_runs.ensures g.P.Blob.Kept.tells c.args.limit c.args.wanted
    c.args.script.now
    c.run_lines-lines.new.server (counted (g.P.Port.faults c.args.port.now) (g.P.Port.reads c.args.port.now)) (counted (g.P.Port.faults c.run_lines-lines.new.port) (g.P.Port.reads c.run_lines-lines.new.port))
    c.requires.rise c.requires.named c.journal.ensures.regular
    c.journal.ensures.few
    c.run_lines-lines.result c.finish-end.result ran.0 _ _ _ lines all
    (rw c.journal.ensures.journal at c.finish-end.ensures.end) in
    rw c.into_journal.ensures ends
