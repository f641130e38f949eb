use Rattle.pj_lex.proofs.BodyLaws.{one_list}
use Rattle.pj_lex.proofs.laws.one_list.Goals as goal

pub returns : goal.returns
returns c = one_list
