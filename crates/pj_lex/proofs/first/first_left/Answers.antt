use Rattle.pj_lex.proofs.FirstTokens.{left-found}
use Rattle.pj_lex.proofs.first.first_left.Goals as goal

pub returns : goal.returns
returns c = left-found c.args.bytes.now c.behind_byte.result c.behind_byte.ensures
