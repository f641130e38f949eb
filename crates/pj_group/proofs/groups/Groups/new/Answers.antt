use Rattle.std.proofs.Common.{◌≡◌, [], ◌∷◌, List, Bor, sym, subst, ap}
use Rattle.std.specs.List.{All, AllZip}
use Rattle.pj_value.specs.Rows.{KindedRows}
use Rattle.pj_expr.specs.declared.query.Item.{Item}
use Rattle.pj_expr.specs.Fits.{FitsItem, FitsQuery, IsOfGroup}
use Rattle.pj_group.specs.declared.forms.Form.TheVariants.{One}
use Rattle.pj_group.specs.Standing.{IsSlot, HoldsGroups, groups_of_none}
use Rattle.pj_group.proofs.FirstRowLemmas.{HoldsRows-none}
use Rattle.pj_group.proofs.HeldLemmas.{All-of_map, AllZip-to_map, all_items-fit, all_items-literal}
use Rattle.pj_group.proofs.groups.Groups.new.Goals as goal

pub new_slots-requires-clause-fits : goal.new_slots-requires-clause-fits
new_slots-requires-clause-fits c =
    let kinds = c.in_ok-none.none.kinds in
    let q = c.args.query.now in
    let same : kinds ≡ c.args.kinds.now = ap (λ (r : KindedRows). r.kinds) c.in_ok-none.ensures in
    subst (λ (is : List (Bor Item)). All (λ i. FitsItem kinds i.now) is) (sym c.as_slice.ensures.value)
    (All-of_map (FitsItem kinds) (λ i. i.now) c.in_ok-items.items.items
    (subst (All (FitsItem kinds)) (sym c.in_ok-items.ensures)
    (all_items-fit kinds q (subst (λ ks. FitsQuery ks q) (sym same) c.requires))))

pub new_slots-requires-clause-built : goal.new_slots-requires-clause-built
new_slots-requires-clause-built c = λ one.
    let q = c.args.query.now in
    let h : HoldsGroups q [] One ([] ∷ []) =
    subst (λ form. HoldsGroups q [] form (groups_of_none form)) one c.form_of-form.ensures in
    subst (λ (is : List (Bor Item)). All (λ i. IsOfGroup [] i.now) is) (sym c.as_slice.ensures.value)
    (All-of_map (IsOfGroup []) (λ i. i.now) c.in_ok-items.items.items
    (subst (All (IsOfGroup [])) (sym c.in_ok-items.ensures)
    (all_items-literal c.args.kinds.now q c.requires h.0 h.1)))

pub returns : goal.returns
returns c =
    let q = c.args.query.now in
    let form = c.form_of-form.result in
    let groups = groups_of_none form in
    let slots = c.in_ok-slots.slots.items in
    let same : c.in_ok-none.none.kinds ≡ c.args.kinds.now =
    ap (λ (r : KindedRows). r.kinds) c.in_ok-none.ensures in
    record {
      held_rows = [];
      enough = HoldsRows-none c.args.kinds.now q;
      groups = groups;
      divided = c.form_of-form.ensures;
      len = c.len_of_none.ensures;
      slots =
          subst (λ is. AllZip (IsSlot c.args.kinds.now groups) is c.in_ok-slots.slots.items) c.in_ok-items.ensures
          (AllZip-to_map (IsSlot c.args.kinds.now groups) (λ (i : Bor Item). i.now) c.in_ok-items.items.items
          c.in_ok-slots.slots.items
          (subst (λ is. AllZip (λ (i : Bor Item) s. IsSlot c.args.kinds.now groups i.now s) is slots)
          c.as_slice.ensures.value
          (subst (λ ks. AllZip (λ (i : Bor Item) s. IsSlot ks groups i.now s) c.as_slice.result.now slots) same
          c.in_ok-slots.ensures)));
    }
