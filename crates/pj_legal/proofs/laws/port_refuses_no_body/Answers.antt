use Rattle.pj_legal.proofs.Refusals.{plain-refusal}
use Rattle.pj_legal.proofs.laws.port_refuses_no_body.Goals as goal

pub returns : goal.returns
returns c = λ tables body. (
  (λ is. (plain-refusal tables body _ is).1),
  (λ part source column granule at is.
      (plain-refusal tables body _ is).1),
)
