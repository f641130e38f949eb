use Rattle.pj_script.specs.declared.types.ScriptMode.TheVariants.{Play}
use Rattle.pj_server.proofs.PlayLemmas.{lines_rise}
use Rattle.pj_server.proofs.playing.play_bytes.Goals as goal

pub play_script-requires-clause-rise : goal.play_script-requires-clause-rise
play_script-requires-clause-rise g c = λ κs within.
    lines_rise 0 c.in-Ok.script.lines
    (c.lines_rise.ensures Play c.as_slice.result.now c.in-Ok.script c.in-Ok.ensures.found).0
