use Rattle.pj_legal.proofs.BodyLaws.{one_meaning, OneBodyReading-from}
use Rattle.pj_legal.proofs.laws.one_body_reading.Goals as goal

pub returns : goal.returns
returns c = OneBodyReading-from one_meaning
