use Rattle.pj_legal.proofs.plain.PlainReplies.{IsLegal-plain}
use Rattle.pj_legal.proofs.laws.legal_replies_are_plain.Goals as goal

pub returns : goal.returns
returns c = IsLegal-plain
