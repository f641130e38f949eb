use Rattle.pj_legal.proofs.texts.TextLaws.{replies_text-push}
use Rattle.pj_legal.proofs.laws.texts_go_on.Goals as goal

pub returns : goal.returns
returns c = replies_text-push
