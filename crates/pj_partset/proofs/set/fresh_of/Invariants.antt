use Rattle.std.proofs.Common.{◌≡◌, ◌++◌, map}
use Rattle.std.specs.Arc.{arc_value}
use Rattle.std.specs.Vec.Iter.{into_iter_items}
use Rattle.pj_partset.proofs.set.fresh_of.Given as goal

abbrev pub invariant-swaps : goal.invariant-swaps
invariant-swaps g l =
    map (λ p. arc_value p) l.fresh.items ++ map (λ s. s.fresh) (into_iter_items l.swap-iterator)
    ≡ map (λ s. s.fresh) l.fn.swaps.items
