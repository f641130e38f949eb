use Rattle.pj_bind.proofs.BindLaws.{no_bound_is_refused}
use Rattle.pj_bind.proofs.laws.no_bound_is_refused.Goals as goal

pub returns : goal.returns
returns c = no_bound_is_refused
