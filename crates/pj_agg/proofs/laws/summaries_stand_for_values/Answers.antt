use Rattle.pj_agg.proofs.StateLawLemmas.{stands-some}
use Rattle.pj_agg.proofs.laws.summaries_stand_for_values.Goals as goal

pub returns : goal.returns
returns c = stands-some
