use Rattle.pj_bind.proofs.TablesFit.{bound_tables_fit}
use Rattle.pj_bind.proofs.laws.bound_tables_fit.Goals as goal

pub returns : goal.returns
returns c = bound_tables_fit
