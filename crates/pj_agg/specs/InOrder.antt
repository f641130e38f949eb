-- Values in their order, each once: what is kept under `uniqExact`.
use Rattle.std.specs.Prelude.{List, [], ◌∷◌}
use Rattle.std.specs.Ordering.{match_ordering}
use Rattle.pj_value.specs.declared.value.Value.{Value}
use Rattle.pj_value.specs.Order.{value_cmp}

-- a value in its place among values that rise, where it is not among them yet
abbrev pub put_in_order : Value → List Value → List Value
put_in_order v [] = v ∷ []
put_in_order v (w ∷ ws) = match_ordering (value_cmp v w) (v ∷ w ∷ ws) (w ∷ ws) (w ∷ put_in_order v ws)

-- the values in their order, each once
abbrev pub in_order : List Value → List Value
in_order [] = []
in_order (v ∷ vs) = put_in_order v (in_order vs)
