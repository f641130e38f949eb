use Rattle.pj_legal.proofs.Refusals.{plain-refusal}
use Rattle.pj_legal.proofs.laws.history_refuses_no_body.Goals as goal

pub returns : goal.returns
returns c = λ tables body is. (plain-refusal tables body _ is).1
