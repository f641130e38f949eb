use Rattle.pj_legal.proofs.BodyLaws.{NoBoundBodyIsRefused-from, one_meaning}
use Rattle.pj_legal.proofs.laws.no_bound_body_is_refused.Goals as goal

pub returns : goal.returns
returns c = NoBoundBodyIsRefused-from one_meaning
