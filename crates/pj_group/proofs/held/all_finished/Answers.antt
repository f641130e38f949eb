use Rattle.std.proofs.Common.{◌≡◌, ◌<◌, ◌≤◌, ◌∷◌, ◌++◌, [], length, map, take, drop, ap, sym, ◌∙◌, arith}
use Rattle.std.proofs.lemmas.List.{length-drop, take_all, length_push}
use Rattle.std.proofs.lemmas.Slice.Zip.{AllZip-long}
use Rattle.std.specs.Vec.Iter.{into_iter_items}
use Rattle.pj_group.specs.Lines.{column_over}
use Rattle.pj_group.specs.Standing.{IsSlot}
use Rattle.pj_group.proofs.HeldLemmas.{head-dropped, drop-dropped, finished-more}
use Rattle.pj_group.proofs.held.all_finished.Goals as goal

pub loop-slot-init : goal.loop-slot-init
loop-slot-init c =
    let none = c.in_ok-columns.ensures.items in (
      ap (λ cs. drop (length cs) c.args.slots.items) none
          ∙ sym (c.into_iter-slot-iterator.ensures.into_iter_gives.0),
      λ columns groups items fits held.
          none ∙ sym (ap (λ cs. map (column_over columns groups) (take (length cs) items)) none),
    )

pub loop-slot-preserved : goal.loop-slot-preserved
loop-slot-preserved c =
    let slots = c.args.slots.items in
    let cs = c.loop-slot.columns.items in
    let n = length cs in
    let slot = c.in-Some.slot in
    let column = c.in_ok-finished.field-0 in
    let rest = into_iter_items c.next.new.self in
    let dropped : drop n slots ≡ slot ∷ rest = c.loop-slot.invariant.0 ∙ c.in-Some.ensures.steps.0 in
    let l : n < length slots = omega (arith, ap length dropped, length-drop n slots) in
    let pushed : c.push.new.self.items ≡ cs ++ column ∷ [] = c.in_ok-push.ensures.items in
    let long = ap length pushed ∙ length_push cs column in (
      ap (λ m. drop m slots) long ∙ drop-dropped n slots slot rest dropped,
      λ columns groups items fits held.
          pushed ∙ ap (λ ds. ds ++ column ∷ []) (c.loop-slot.invariant.1 columns groups items fits held)
          ∙ finished-more columns groups items slots n slot column l fits held
          (head-dropped n slots slot rest dropped) (c.in_ok-finished.ensures columns groups)
          ∙ ap (λ m. map (column_over columns groups) (take m items)) (sym long),
    )

pub returns : goal.returns
returns c = λ columns groups items fits held.
    let slots = c.args.slots.items in
    let cs = c.loop-slot.columns.items in
    let n = length cs in
    let l : length items ≤ n =
    omega (
      arith,
      c.in-None.ensures.steps.0,
      c.loop-slot.slot-iterator.rest.ok.0,
      ap length c.loop-slot.invariant.0,
      length-drop n slots,
      AllZip-long (IsSlot columns groups) items slots held,
    ) in
    c.loop-slot.invariant.1 columns groups items fits held
    ∙ ap (map (column_over columns groups)) (take_all n items l)
