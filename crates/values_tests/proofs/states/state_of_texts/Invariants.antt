use Rattle.std.proofs.Common.{◌≡◌}
use Rattle.pj_value.specs.declared.value.Kind.TheVariants as kinds
use Rattle.pj_agg.specs.AggStates.{agg_of, IsOf}
use Rattle.values_tests.proofs.states.state_of_texts.Given as goal

abbrev pub invariant-texts : goal.invariant-texts
invariant-texts l = IsOf kinds.Text l.state × (agg_of l.state ≡ l.fn.agg)
