use Rattle.pj_lex.proofs.FirstTokens.{comma-found}
use Rattle.pj_lex.proofs.first.first_comma.Goals as goal

pub returns : goal.returns
returns c = comma-found c.args.bytes.now c.behind_byte.result c.behind_byte.ensures
