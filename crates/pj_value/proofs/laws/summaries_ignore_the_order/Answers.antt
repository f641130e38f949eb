use Rattle.pj_value.proofs.OneSummaryLemmas.{Stands-same, summary_of-permutation}
use Rattle.pj_value.proofs.laws.summaries_ignore_the_order.Goals as goal

pub returns : goal.returns
returns c = λ agg s vs ws p. Stands-same agg s vs ws (summary_of-permutation agg vs ws p)
