use Rattle.pj_value.specs.declared.value.Kind.TheVariants as kinds
use Rattle.values_tests.proofs.states.falling.Given as goal

abbrev pub invariant-numbers : goal.invariant-numbers
invariant-numbers g l = g.S.State.is_of kinds.Num l.state
