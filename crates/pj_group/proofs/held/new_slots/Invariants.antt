use Rattle.std.proofs.Common.{take}
use Rattle.std.specs.List.{AllZip}
use Rattle.pj_group.specs.Standing.{IsSlot, groups_of_none}
use Rattle.pj_group.proofs.held.new_slots.Given as goal

abbrev pub invariant-loop-item : goal.invariant-loop-item
invariant-loop-item l =
    AllZip (λ i s. IsSlot l.none.kinds (groups_of_none l.form) i.now s) (take l.item-index l.items) l.slots.items
