use Rattle.std.proofs.Common.{◌≡◌, List, length, map, take, drop}
use Rattle.std.specs.List.{All, AllZip}
use Rattle.std.specs.Vec.Iter.{into_iter_items}
use Rattle.pj_value.specs.declared.value.Kind.{Kind}
use Rattle.pj_expr.specs.declared.query.Item.{Item}
use Rattle.pj_expr.specs.Fits.{FitsItem}
use Rattle.pj_answer.specs.Answers.{Row}
use Rattle.pj_group.specs.Lines.{column_over}
use Rattle.pj_group.specs.Standing.{IsSlot}
use Rattle.pj_group.proofs.held.all_finished.Given as goal

abbrev pub invariant-loop-slot : goal.invariant-loop-slot
invariant-loop-slot l =
    (drop (length l.columns.items) l.fn.slots.items ≡ into_iter_items l.slot-iterator)
    × ((columns : List Kind) (groups : List (List Row)) (items : List Item)
    → All (FitsItem columns) items → AllZip (IsSlot columns groups) items l.fn.slots.items
    → l.columns.items ≡ map (column_over columns groups) (take (length l.columns.items) items))
