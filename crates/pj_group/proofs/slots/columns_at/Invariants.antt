use Rattle.std.proofs.Common.{◌≡◌, ◌<◌, ◌++◌, length, map}
use Rattle.std.specs.List.{All}
use Rattle.std.specs.Vec.Iter.{into_iter_items}
use Rattle.pj_value.specs.Columns.{KindedValues}
use Rattle.pj_group.specs.Slots.{column_at}
use Rattle.pj_group.proofs.slots.columns_at.Given as goal

abbrev pub invariant-loop-column : goal.invariant-loop-column
invariant-loop-column l =
    All (λ (c : KindedValues). All (λ at. at < length c.values) l.indexes) (into_iter_items l.column-iterator)
    × (l.slots.items ++ map (column_at l.indexes) (into_iter_items l.column-iterator)
    ≡ map (column_at l.indexes) l.fn.columns.items)
