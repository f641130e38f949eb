use Rattle.std.proofs.Common.{◌≡◌, ◌++◌, List, Bor, length, ap, sym, ◌∙◌, subst, arith}
use Rattle.std.specs.List.{All, AllZip, filter}
use Rattle.std.proofs.lemmas.List.{length-map}
use Rattle.std.proofs.lemmas.List.Elements.{All-from_recursion, filter-append}
use Rattle.pj_value.specs.Rows.{rows_at}
use Rattle.pj_expr.specs.declared.query.Item.{Item}
use Rattle.pj_expr.specs.Eval.{holds}
use Rattle.pj_expr.specs.Fits.{FitsExpr, FitsItem}
use Rattle.pj_group.specs.Slots.{AreWithin, IsItemOf, IsOfItem}
use Rattle.pj_group.specs.Standing.{IsSlot, HoldsRows, all_items}
use Rattle.pj_group.proofs.FirstRowLemmas.{HoldsRows-more}
use Rattle.pj_group.proofs.HeldLemmas.{All-of_map, AllZip-of_map, AllZip-to_map, AllZip-weaker}
use Rattle.pj_group.proofs.HeldLemmas.{all_items-fit, all_items-of, IsOfItem-IsSlot}
use Rattle.pj_group.proofs.groups.Groups.with_rows.Goals as goal

pub numbers_of-requires-clause-fits : goal.numbers_of-requires-clause-fits
numbers_of-requires-clause-fits c =
    All-from_recursion (FitsExpr c.args.rows.now.kinds) c.args.query.now.groups c.requires.fits.kinds.groups

pub add_to_all-requires-clause-fits : goal.add_to_all-requires-clause-fits
add_to_all-requires-clause-fits c =
    let kinds = c.args.rows.now.kinds in
    subst (λ (is : List (Bor Item)). All (λ i. FitsItem kinds i.now) is) (sym c.as_slice.ensures.value)
    (All-of_map (FitsItem kinds) (λ i. i.now) c.in_ok-items.items.items
    (subst (All (FitsItem kinds)) (sym c.in_ok-items.ensures)
    (all_items-fit kinds c.args.query.now c.requires.fits)))

pub add_to_all-requires-clause-form : goal.add_to_all-requires-clause-form
add_to_all-requires-clause-form c =
    let q = c.args.query.now in
    let kinds = c.args.rows.now.kinds in
    let st = c.requires.stands.1 in
    let slots = c.args.self.slots.items in
    let n = length st.groups in (
      n,
      omega (arith, st.len, c.in_ok-len.ensures),
      subst (λ (is : List (Bor Item)). AllZip (λ i s. IsOfItem kinds n i.now s) is slots)
          (sym c.as_slice.ensures.value)
          (AllZip-of_map (IsOfItem kinds n) (λ i. i.now) c.in_ok-items.items.items slots
          (subst (λ is. AllZip (IsOfItem kinds n) is slots) (sym c.in_ok-items.ensures)
          (AllZip-weaker (IsSlot kinds st.groups) (IsOfItem kinds n) (all_items q) slots
          (IsOfItem-IsSlot kinds st.groups) st.slots))),
    )

pub add_to_all-requires-clause-within : goal.add_to_all-requires-clause-within
add_to_all-requires-clause-within c =
    let q = c.args.query.now in
    let kinds = c.args.rows.now.kinds in
    let st = c.requires.stands.1 in
    let numbers = c.in_ok-numbers.numbers in
    let indexes = c.in_ok-kept.kept.indexes in
    let more = rows_at c.args.rows.now.rows indexes.items in
    let r = c.in_ok-numbers.ensures st.held_rows st.groups st.divided in
    let of = all_items-of kinds q c.requires.fits in
    let len : length r.groups ≡ c.in_ok-len.len =
    omega (arith, r.len, st.len, c.in_ok-len.ensures, c.len.ensures, numbers.openings.ok.0) in
    subst (λ (is : List (Bor Item)). All (λ i. AreWithin c.in_ok-len.len (length indexes.items) i.now numbers) is)
    (sym c.as_slice.ensures.value)
    (All-of_map (λ i. AreWithin c.in_ok-len.len (length indexes.items) i numbers) (λ i. i.now)
    c.in_ok-items.items.items
    (subst (All (λ i. AreWithin c.in_ok-len.len (length indexes.items) i numbers)) (sym c.in_ok-items.ensures)
    (subst (λ n. All (λ i. AreWithin n (length indexes.items) i numbers) (all_items q)) len
    (subst (λ m. All (λ i. AreWithin (length r.groups) m i numbers) (all_items q))
    (length-map indexes.items _)
    (λ k d l. r.within _ (of k d l))))))

pub returns : goal.returns
returns c = λ seen st.
    let q = c.args.query.now in
    let kinds = c.args.rows.now.kinds in
    let kept = filter (holds q.filter) seen in
    let numbers = c.in_ok-numbers.numbers in
    let indexes = c.in_ok-kept.kept.indexes in
    let more = rows_at c.args.rows.now.rows indexes.items in
    let slots = c.args.self.slots.items in
    let r = c.in_ok-numbers.ensures st.held_rows st.groups st.divided in
    let len : length r.groups ≡ c.in_ok-len.len =
    omega (arith, r.len, st.len, c.in_ok-len.ensures, c.len.ensures, numbers.openings.ok.0) in
    let all : kept ++ more ≡ filter (holds q.filter) (seen ++ c.args.rows.now.rows) =
    ap (λ rs. kept ++ rs) c.in_ok-kept.ensures.rows ∙ sym (filter-append (holds q.filter) seen c.args.rows.now.rows) in
    let of = subst (λ (is : List (Bor Item)). All (λ i. IsItemOf q i.now) is) (sym c.as_slice.ensures.value)
    (All-of_map (IsItemOf q) (λ i. i.now) c.in_ok-items.items.items
    (subst (All (IsItemOf q)) (sym c.in_ok-items.ensures) (all_items-of kinds q c.requires.fits))) in
    let held = subst (λ (is : List (Bor Item)). AllZip (λ i s. IsSlot kinds st.groups i.now s) is slots)
    (sym c.as_slice.ensures.value)
    (AllZip-of_map (IsSlot kinds st.groups) (λ i. i.now) c.in_ok-items.items.items slots
    (subst (λ is. AllZip (IsSlot kinds st.groups) is slots) (sym c.in_ok-items.ensures) st.slots)) in
    record {
      held_rows = st.held_rows ++ more;
      enough =
          subst (λ rs. HoldsRows kinds q rs (st.held_rows ++ more)) all
          (HoldsRows-more kinds q kept st.held_rows more st.enough);
      groups = r.groups;
      divided = r.divided;
      len = sym len;
      slots =
          subst (λ is. AllZip (IsSlot kinds r.groups) is c.add_to_all.new.slots.items) c.in_ok-items.ensures
          (AllZip-to_map (IsSlot kinds r.groups) (λ i. i.now) c.in_ok-items.items.items
          c.add_to_all.new.slots.items
          (subst (λ (is : List (Bor Item)). AllZip (λ i s. IsSlot kinds r.groups i.now s) is
          c.add_to_all.new.slots.items) c.as_slice.ensures.value
          (c.in_ok-add_to_all.ensures q st.groups r.groups of len r.grow held)));
    }
