use Rattle.pj_lex.proofs.BodyLaws.{tokens_or_break}
use Rattle.pj_lex.proofs.laws.tokens_or_break.Goals as goal

pub returns : goal.returns
returns c = tokens_or_break
