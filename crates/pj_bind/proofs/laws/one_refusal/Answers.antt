use Rattle.pj_bind.proofs.BindLaws.{one_refusal}
use Rattle.pj_bind.proofs.laws.one_refusal.Goals as goal

pub returns : goal.returns
returns c = one_refusal
