use Rattle.pj_value.proofs.OneSummaryLemmas.{Stands-append}
use Rattle.pj_value.proofs.laws.summaries_join.Goals as goal

pub returns : goal.returns
returns c = Stands-append
