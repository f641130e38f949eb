use Rattle.pj_bind.proofs.TableLemmas.{each_is_first}
use Rattle.pj_bind.proofs.laws.each_is_first.Goals as goal

pub returns : goal.returns
returns c = each_is_first
