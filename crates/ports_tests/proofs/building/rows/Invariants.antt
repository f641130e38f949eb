use Rattle.std.proofs.Common.{◌≡◌, [], ◌∷◌}
use Rattle.pj_value.specs.declared.value.Kind.TheVariants as kinds
use Rattle.ports_tests.proofs.building.rows.Given as goal

abbrev pub invariant-pairs : goal.invariant-pairs
invariant-pairs l = l.rows.kinds ≡ kinds.Num ∷ kinds.Text ∷ []
