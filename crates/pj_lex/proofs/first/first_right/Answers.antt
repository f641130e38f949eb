use Rattle.pj_lex.proofs.FirstTokens.{right-found}
use Rattle.pj_lex.proofs.first.first_right.Goals as goal

pub returns : goal.returns
returns c = right-found c.args.bytes.now c.behind_byte.result c.behind_byte.ensures
