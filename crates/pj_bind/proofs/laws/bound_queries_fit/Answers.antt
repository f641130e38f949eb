use Rattle.pj_bind.proofs.BindLaws.{bound_queries_fit}
use Rattle.pj_bind.proofs.laws.bound_queries_fit.Goals as goal

pub returns : goal.returns
returns c = bound_queries_fit
