use Rattle.std.proofs.Common.{◌≡◌, map, take}
use Rattle.pj_group.specs.Indexes.{item_column, chosen}
use Rattle.pj_group.proofs.items.output_columns.Given as goal

abbrev pub invariant-loop-item : goal.invariant-loop-item
invariant-loop-item l =
    l.columns.items ≡ map (item_column (chosen l.rows l.indexes)) (take l.item-index l.items)
