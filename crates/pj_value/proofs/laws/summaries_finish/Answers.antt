use Rattle.pj_value.proofs.OneSummaryLemmas.{finished-is}
use Rattle.pj_value.proofs.laws.summaries_finish.Goals as goal

pub returns : goal.returns
returns c = finished-is
