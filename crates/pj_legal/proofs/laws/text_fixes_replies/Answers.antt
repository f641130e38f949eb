use Rattle.pj_legal.proofs.FixedReplies.{text_fixes_replies}
use Rattle.pj_legal.proofs.laws.text_fixes_replies.Goals as goal

pub returns : goal.returns
returns c = text_fixes_replies
