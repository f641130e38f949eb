use Rattle.pj_script.proofs.LineScripts.{no_script_with_a_bad_line}
use Rattle.pj_script.proofs.lines.no_script_with_a_bad_line.Goals as goal

pub returns : goal.returns
returns c = no_script_with_a_bad_line
