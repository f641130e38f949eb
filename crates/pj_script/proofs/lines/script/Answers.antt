use Rattle.pj_script.proofs.LineScripts.{script_is_found, line_is_bad}
use Rattle.pj_script.proofs.lines.script.Goals as goal

pub returns-clause-found : goal.returns-clause-found
returns-clause-found c = script_is_found c.args.mode c.args.bytes.now c.read_lines.result c.read_lines.ensures

pub returns-clause-bad : goal.returns-clause-bad
returns-clause-bad c = line_is_bad c.args.mode c.args.bytes.now c.read_lines.result c.read_lines.ensures
