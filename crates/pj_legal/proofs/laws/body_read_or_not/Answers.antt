use Rattle.pj_legal.proofs.BodyCauses.{body_read_or_not}
use Rattle.pj_legal.proofs.laws.body_read_or_not.Goals as goal

pub returns : goal.returns
returns c = body_read_or_not
