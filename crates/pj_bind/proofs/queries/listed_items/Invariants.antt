use Rattle.std.proofs.Common.{◌≡◌, Some, map, take}
use Rattle.pj_bind.specs.Queries.{all_of, item_of}
use Rattle.pj_bind.proofs.queries.listed_items.Given as goal

abbrev pub invariant-items : goal.invariant-items
invariant-items l =
    all_of (map (λ i. item_of l.columns i.item) (take l.listed-index l.items)) ≡ Some l.found.items
