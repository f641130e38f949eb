use Rattle.pj_value.specs.Aggregates.{lesser}
use Rattle.pj_agg.proofs.StateLawLemmas.{least-has, least-upto, extreme_of-none}
use Rattle.pj_agg.proofs.laws.least_is_least.Goals as goal

pub returns-clause-some : goal.returns-clause-some
returns-clause-some c = λ v vs e. (least-has v vs e, λ w h. least-upto v w vs e h)

pub returns-clause-none : goal.returns-clause-none
returns-clause-none c = extreme_of-none lesser
