use Rattle.pj_lex.proofs.FirstTokens.{semicolon-found}
use Rattle.pj_lex.proofs.first.first_semicolon.Goals as goal

pub returns : goal.returns
returns c = semicolon-found c.args.bytes.now c.behind_byte.result c.behind_byte.ensures
