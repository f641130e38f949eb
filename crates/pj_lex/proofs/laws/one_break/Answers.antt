use Rattle.pj_lex.proofs.BodyLaws.{one_break}
use Rattle.pj_lex.proofs.laws.one_break.Goals as goal

pub returns : goal.returns
returns c = one_break
