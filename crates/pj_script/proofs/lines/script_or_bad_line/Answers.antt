use Rattle.pj_script.proofs.LineScripts.{script_or_bad_line}
use Rattle.pj_script.proofs.lines.script_or_bad_line.Goals as goal

pub returns : goal.returns
returns c = script_or_bad_line
