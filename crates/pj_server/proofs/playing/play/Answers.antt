use Rattle.std.proofs.Common.{◌∙◌, sym}
use Rattle.pj_server.proofs.StatusLemmas.{completes, tells_bad_line, statuses, sink_blamed, source_blamed}
use Rattle.pj_server.proofs.StatusLemmas.{read_bad_line, never_runs}
use Rattle.pj_server.proofs.playing.play.Goals as goal

pub returns-clause-complete : goal.returns-clause-complete
returns-clause-complete g c = λ bytes script told few spelled taken source sink.
    let ran = c.play_arguments-end.ensures in
    rw c.status.ensures
    (completes c.no_script_with_a_bad_line.ensures c.play_arguments-end.result.end _ _ _ _ _ _ _ _ _ ran.ends
    (λ e. source (ran.source_failed e))
    (λ e. sink (ran.sink_failed e)) bytes script told few spelled taken)

pub returns-clause-bad_line_told : goal.returns-clause-bad_line_told
returns-clause-bad_line_told g c = λ bytes line told few bad taken source sink.
    let ran = c.play_arguments-end.ensures in
    rw c.status.ensures
    (tells_bad_line c.no_script_with_a_bad_line.ensures c.play_arguments-end.result.end _ _ _ _ _ _ _ _ _ ran.ends
    (λ e. source (ran.source_failed e))
    (λ e. sink (ran.sink_failed e)) bytes line told few bad taken)

pub returns-clause-source_blamed : goal.returns-clause-source_blamed
returns-clause-source_blamed g c = λ rose.
    rw c.status.ensures
    (source_blamed c.play_arguments-end.result.end _ _ c.play_arguments-end.ensures.source_calm rose)

pub returns-clause-sink_blamed : goal.returns-clause-sink_blamed
returns-clause-sink_blamed g c = λ rose.
    rw c.status.ensures
    (sink_blamed c.play_arguments-end.result.end _ _ c.play_arguments-end.ensures.sink_calm rose)

pub returns-clause-statuses : goal.returns-clause-statuses
returns-clause-statuses g c = rw c.status.ensures (statuses c.play_arguments-end.result.end)

pub returns-clause-bad_line : goal.returns-clause-bad_line
returns-clause-bad_line g c = λ is.
    read_bad_line c.play_arguments-end.result.end _ _ _ _ _ _ _ _ _ c.play_arguments-end.ensures.ends
    (sym c.status.ensures ∙ is)

pub returns-clause-uncalled : goal.returns-clause-uncalled
returns-clause-uncalled g c = λ which.
    c.play_arguments-end.ensures.uncalled
    (never_runs c.play_arguments-end.result.end (rw c.status.ensures at which))
