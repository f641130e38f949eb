use Rattle.std.proofs.Common.{◌≡◌, ◌++◌, map, take}
use Rattle.pj_expr.specs.declared.query.OrderKey.{OrderKey}
use Rattle.pj_group.proofs.held.items_of.Given as goal

abbrev pub invariant-loop-item : goal.invariant-loop-item
invariant-loop-item l = map (λ i. i.now) l.found.items ≡ take l.item-index l.item-items

abbrev pub invariant-loop-key : goal.invariant-loop-key
invariant-loop-key l =
    map (λ i. i.now) l.found.items
    ≡ l.query.items ++ map (λ (key : OrderKey). key.item) (take l.key-index l.key-items)
