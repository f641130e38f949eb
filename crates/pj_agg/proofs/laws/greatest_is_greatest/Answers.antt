use Rattle.pj_value.specs.Aggregates.{greater}
use Rattle.pj_agg.proofs.StateLawLemmas.{greatest-has, greatest-upto, extreme_of-none}
use Rattle.pj_agg.proofs.laws.greatest_is_greatest.Goals as goal

pub returns-clause-some : goal.returns-clause-some
returns-clause-some c = λ v vs e. (greatest-has v vs e, λ w h. greatest-upto v w vs e h)

pub returns-clause-none : goal.returns-clause-none
returns-clause-none c = extreme_of-none greater
