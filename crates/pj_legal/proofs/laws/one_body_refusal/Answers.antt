use Rattle.pj_legal.proofs.BodyLaws.{one_meaning, OneBodyRefusal-from}
use Rattle.pj_legal.proofs.laws.one_body_refusal.Goals as goal

pub returns : goal.returns
returns c = OneBodyRefusal-from one_meaning
