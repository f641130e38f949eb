use Rattle.std.proofs.Common.{◌≡◌, map, take}
use Rattle.pj_value.specs.Values.{value_of}
use Rattle.pj_agg.proofs.pile.cells_of.Given as goal

abbrev pub invariant-items : goal.invariant-items
invariant-items g l = map value_of l.cells.items ≡ map g.T.Valued.value (take l.item-index l.items)
