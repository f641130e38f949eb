use Rattle.pj_legal.proofs.texts.TextLaws.{announced-same}
use Rattle.pj_legal.proofs.laws.announcements_are_told_apart.Goals as goal

pub returns : goal.returns
returns c = announced-same
