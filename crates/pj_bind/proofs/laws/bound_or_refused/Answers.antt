use Rattle.pj_bind.proofs.BindLaws.{bound_or_refused}
use Rattle.pj_bind.proofs.laws.bound_or_refused.Goals as goal

pub returns : goal.returns
returns c = bound_or_refused
