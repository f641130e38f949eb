use Rattle.std.proofs.Common.{[], ◌∷◌}
use Rattle.pj_value.specs.Values.{value_of}
use Rattle.pj_agg.specs.States.{piles_values}
use Rattle.pj_agg.proofs.InOrderLemmas.{stands-in_order}
use Rattle.pj_agg.proofs.uniq_state.UniqStateState.lift.Goals as goal

pub returns-clause-one : goal.returns-clause-one
returns-clause-one c =
    stands-in_order (piles_values c.in_ok-piles.piles) (value_of c.args.cell ∷ []) c.in_ok-piles.ensures.values
