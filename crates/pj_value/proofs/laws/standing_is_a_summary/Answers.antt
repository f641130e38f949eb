use Rattle.pj_value.proofs.OneSummaryLemmas.{IsSummary-from_Stands}
use Rattle.pj_value.proofs.laws.standing_is_a_summary.Goals as goal

pub returns : goal.returns
returns c = IsSummary-from_Stands
