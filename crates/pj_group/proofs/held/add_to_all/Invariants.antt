use Rattle.std.proofs.Common.{◌≡◌, List, length, take, drop}
use Rattle.std.specs.List.{All, AllZip}
use Rattle.pj_value.specs.Rows.{rows_at}
use Rattle.pj_expr.specs.declared.query.Query.{Query}
use Rattle.pj_answer.specs.Answers.{Row}
use Rattle.pj_group.specs.Slots.{Grow, IsItemOf}
use Rattle.pj_group.specs.Standing.{IsSlot}
use Rattle.pj_group.proofs.held.add_to_all.Given as goal

abbrev pub invariant-loop-at : goal.invariant-loop-at
invariant-loop-at l =
    (drop l.at l.slots.items ≡ drop l.at l.initial.slots.items)
    × (length l.slots.items ≡ length l.initial.slots.items)
    × ((q : Query) (old new : List (List Row))
    → All (λ i. IsItemOf q i.now) l.items → length new ≡ l.groups
    → Grow q l.numbers (rows_at l.rows.rows l.kept.indexes.items) old new
    → AllZip (λ i s. IsSlot l.rows.kinds old i.now s) l.items l.initial.slots.items
    → AllZip (λ i s. IsSlot l.rows.kinds new i.now s) (take l.at l.items) (take l.at l.slots.items))
