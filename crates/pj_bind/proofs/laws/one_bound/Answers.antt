use Rattle.pj_bind.proofs.BindLaws.{one_bound}
use Rattle.pj_bind.proofs.laws.one_bound.Goals as goal

pub returns : goal.returns
returns c = one_bound
