use Rattle.std.proofs.Common.{◌≡◌, ℕ, ◌+◌, ◌<◌, get_or, map}
use Rattle.std.specs.declared.cmp.Ordering.TheVariants.{Less}
use Rattle.pj_value.specs.declared.value.Value.{Value}
use Rattle.pj_value.specs.Order.{value_cmp}
use Rattle.pj_agg.proofs.pile.is_rising.Given as goal

abbrev pub invariant-pairs : goal.invariant-pairs
invariant-pairs g l =
    (k : ℕ) (d : Value) → k + 1 < l.at
    → value_cmp (get_or (map g.T.Valued.value l.items) k d) (get_or (map g.T.Valued.value l.items) (k + 1) d)
    ≡ Less
