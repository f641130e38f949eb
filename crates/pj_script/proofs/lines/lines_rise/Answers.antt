use Rattle.pj_script.proofs.LineScripts.{lines_rise}
use Rattle.pj_script.proofs.lines.lines_rise.Goals as goal

pub returns : goal.returns
returns c = lines_rise
