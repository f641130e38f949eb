use Rattle.pj_script.proofs.LineScripts.{one_bad_line}
use Rattle.pj_script.proofs.lines.one_bad_line.Goals as goal

pub returns : goal.returns
returns c = one_bad_line
