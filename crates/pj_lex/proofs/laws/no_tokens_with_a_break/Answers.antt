use Rattle.pj_lex.proofs.BodyLaws.{no_tokens_with_a_break}
use Rattle.pj_lex.proofs.laws.no_tokens_with_a_break.Goals as goal

pub returns : goal.returns
returns c = no_tokens_with_a_break
