use Rattle.pj_legal.proofs.texts.TextLaws.{reply_text-same}
use Rattle.pj_legal.proofs.laws.replies_are_told_apart.Goals as goal

pub returns : goal.returns
returns c = reply_text-same
