use Rattle.std.proofs.Common.{ap}
use Rattle.pj_value.specs.Summaries.{finished}
use Rattle.pj_agg.proofs.StateLawLemmas.{one-permuted, one-turned, one-of_three}
use Rattle.pj_agg.proofs.laws.joins_ignore_the_order.Goals as goal

pub returns-clause-commute : goal.returns-clause-commute
returns-clause-commute c = one-turned

pub returns-clause-associate : goal.returns-clause-associate
returns-clause-associate c = one-of_three

pub returns-clause-alike : goal.returns-clause-alike
returns-clause-alike c = λ agg kind a b vs ws p h k. ap (finished kind) (one-permuted agg a b vs ws p h k)
