use Rattle.pj_script.proofs.LineScripts.{one_reading}
use Rattle.pj_script.proofs.lines.one_reading.Goals as goal

pub returns : goal.returns
returns c = one_reading
