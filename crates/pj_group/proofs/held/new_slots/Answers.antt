use Rattle.std.proofs.Common.{◌+◌, ◌∷◌, [], ◌++◌, Bor, take, get_or, sym, subst}
use Rattle.std.specs.List.{AllZip}
use Rattle.std.proofs.lemmas.List.{take_more}
use Rattle.std.proofs.lemmas.Slice.Zip.{all_zipped_more}
use Rattle.pj_expr.specs.declared.query.Item.{Item}
use Rattle.pj_group.specs.declared.slots.Slot.{Slot}
use Rattle.pj_group.specs.Standing.{IsSlot, groups_of_none}
use Rattle.pj_group.proofs.held.new_slots.Goals as goal

pub loop-item-preserved : goal.loop-item-preserved
loop-item-preserved c =
    let items = c.args.items.now in
    let at = c.loop-item.item-index in
    let item = c.item-item.result in
    let is_slot = λ (i : Bor Item) (s : Slot). IsSlot c.args.none.now.kinds (groups_of_none c.args.form.now) i.now s in
    let one = get_or items at item in
    subst (AllZip is_slot (take (at + 1) items)) (sym c.in_ok-push.ensures.items)
    (subst (λ is. AllZip is_slot is (c.loop-item.slots.items ++ c.in_ok-new_slot.field-0 ∷ []))
    (sym (take_more items at item c.loop-item-test.true))
    (all_zipped_more is_slot (take at items) c.loop-item.slots.items one c.in_ok-new_slot.field-0
    c.loop-item.invariant
    (subst (λ i. is_slot i c.in_ok-new_slot.field-0) c.item-item.is c.in_ok-new_slot.ensures)))
