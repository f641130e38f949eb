use Rattle.pj_legal.proofs.BodyCauses.{body_bound_or_refused}
use Rattle.pj_legal.proofs.laws.body_bound_or_refused.Goals as goal

pub returns : goal.returns
returns c = body_bound_or_refused
