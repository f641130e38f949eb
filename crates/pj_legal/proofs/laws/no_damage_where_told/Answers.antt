use Rattle.pj_legal.proofs.plain.PlainReplies.{IsLegal-undamaged}
use Rattle.pj_legal.proofs.laws.no_damage_where_told.Goals as goal

pub returns : goal.returns
returns c = IsLegal-undamaged
