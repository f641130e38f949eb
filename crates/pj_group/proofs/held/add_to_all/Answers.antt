use Rattle.std.proofs.Common.{◌≡◌, ◌≤◌, ◌<◌, ◌+◌, ◌∷◌, ◌++◌, [], Bor, length, take, drop, get_or, set, sym, ◌∙◌}
use Rattle.std.proofs.Common.{subst, arith}
use Rattle.std.specs.List.{AllZip}
use Rattle.std.proofs.lemmas.List.{drop-set-lt, take_more, take_more_set, take_all, length-set}
use Rattle.std.proofs.lemmas.Slice.Zip.{AllZip-long, all_zipped_more}
use Rattle.pj_expr.specs.declared.query.Item.{Item}
use Rattle.pj_group.specs.declared.slots.Slot.{Slot}
use Rattle.pj_group.specs.Slots.{IsItemOf, IsOfItem}
use Rattle.pj_group.specs.Standing.{IsSlot}
use Rattle.pj_group.proofs.HeldLemmas.{AllZip-at, head-dropped, drop-dropped, front-same}
use Rattle.pj_group.proofs.held.add_to_all.Goals as goal

pub index_mut-requires : goal.index_mut-requires
index_mut-requires c =
    omega (
      arith,
      c.loop-at.slots.ok.0,
      c.loop-at.invariant.1,
      AllZip-long _ c.args.items.now c.args.slots.now.items c.requires.form.2,
      c.loop-at-test.true,
    )

pub add_to-requires-clause-form : goal.add_to-requires-clause-form
add_to-requires-clause-form c =
    let kinds = c.args.rows.now.kinds in
    let n = c.requires.form.0 in
    let at = c.loop-at.at in
    let items = c.args.items.now in
    let item = c.index-items-at.result in
    let slots = c.loop-at.slots.items in
    let first = c.args.slots.now.items in
    let slot = c.index_mut.result.now in
    let l : at < length slots =
    omega (arith, c.loop-at.invariant.1, AllZip-long _ items first c.requires.form.2, c.loop-at-test.true) in
    let dropped = front-same at slots first slot c.loop-at.invariant.0 l c.index_mut.ensures.value in (
      n,
      c.requires.form.1,
      subst (IsOfItem kinds n item.now) (head-dropped at first slot (drop (at + 1) slots) dropped)
          (subst (λ (i : Bor Item). IsOfItem kinds n i.now (get_or first at slot)) (sym c.index-items-at.is)
          (AllZip-at (λ (i : Bor Item) (s : Slot). IsOfItem kinds n i.now s) items first at item slot
          c.requires.form.2 c.loop-at-test.true)),
    )

pub loop-at-preserved : goal.loop-at-preserved
loop-at-preserved c =
    let kinds = c.args.rows.now.kinds in
    let at = c.loop-at.at in
    let items = c.args.items.now in
    let item = c.index-items-at.result in
    let slots = c.loop-at.slots.items in
    let first = c.args.slots.now.items in
    let slot = c.index_mut.result.now in
    let after = c.add_to.new.slot in
    let l : at < length slots =
    omega (arith, c.loop-at.invariant.1, AllZip-long _ items first c.requires.form.2, c.loop-at-test.true) in
    let next : at < at + 1 = omega arith in
    let dropped = front-same at slots first slot c.loop-at.invariant.0 l c.index_mut.ensures.value in
    let here = head-dropped at first slot (drop (at + 1) slots) dropped in (
      drop-set-lt (at + 1) slots at after next
          ∙ sym (drop-dropped at first slot (drop (at + 1) slots) dropped),
      length-set slots at after ∙ c.loop-at.invariant.1,
      λ q old new of long grow held.
          let one = get_or items at item in
          let is : item ≡ one = c.index-items-at.is in
          let made = c.in_ok-add_to.ensures q old new
          (subst (λ (i : Bor Item). IsItemOf q i.now) (sym is) (of at item c.loop-at-test.true)) long grow
          (subst (λ (i : Bor Item). IsSlot kinds old i.now slot) (sym is)
          (subst (IsSlot kinds old one.now) here
          (AllZip-at (λ (i : Bor Item) (s : Slot). IsSlot kinds old i.now s) items first at item slot held
          c.loop-at-test.true))) in
          subst (λ is. AllZip (λ (i : Bor Item) (s : Slot). IsSlot kinds new i.now s) is
          (take (at + 1) (set slots at after)))
          (sym (take_more items at item c.loop-at-test.true))
          (subst (λ ss. AllZip (λ (i : Bor Item) (s : Slot). IsSlot kinds new i.now s)
          (take at items ++ one ∷ []) ss) (sym (take_more_set slots at after l))
          (all_zipped_more (λ (i : Bor Item) (s : Slot). IsSlot kinds new i.now s) (take at items)
          (take at slots) one after (c.loop-at.invariant.2 q old new of long grow held)
          (subst (λ (i : Bor Item). IsSlot kinds new i.now after) is made))),
    )

pub returns : goal.returns
returns c = λ q old new of long grow held.
    let kinds = c.args.rows.now.kinds in
    let at = c.loop-at.at in
    let items = c.args.items.now in
    let slots = c.loop-at.slots.items in
    let first = c.args.slots.now.items in
    let l : length items ≤ at = omega (arith, c.loop-at-test.false) in
    let m : length slots ≤ at =
    omega (arith, l, c.loop-at.invariant.1, AllZip-long _ items first c.requires.form.2) in
    subst (λ is. AllZip (λ (i : Bor Item) (s : Slot). IsSlot kinds new i.now s) is slots) (take_all at items l)
    (subst (λ ss. AllZip (λ (i : Bor Item) (s : Slot). IsSlot kinds new i.now s) (take at items) ss)
    (take_all at slots m) (c.loop-at.invariant.2 q old new of long grow held))
