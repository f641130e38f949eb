use Rattle.pj_legal.proofs.BodyLaws.{OneBodyBound-from, one_meaning}
use Rattle.pj_legal.proofs.laws.one_body_bound.Goals as goal

pub returns : goal.returns
returns c = OneBodyBound-from one_meaning
