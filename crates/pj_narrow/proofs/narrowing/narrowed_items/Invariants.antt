use Rattle.std.proofs.Common.{◌≡◌, map, take}
use Rattle.pj_narrow.specs.Narrowing.{narrowed_item}
use Rattle.pj_narrow.proofs.narrowing.narrowed_items.Given as goal

abbrev pub invariant-items : goal.invariant-items
invariant-items l = l.narrow.items ≡ map (narrowed_item l.columns) (take l.item-index l.items)
