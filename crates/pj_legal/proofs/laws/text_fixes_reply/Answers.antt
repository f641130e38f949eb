use Rattle.pj_legal.proofs.texts.ReadReplies.{reply_text-read}
use Rattle.pj_legal.proofs.laws.text_fixes_reply.Goals as goal

pub returns : goal.returns
returns c = reply_text-read
