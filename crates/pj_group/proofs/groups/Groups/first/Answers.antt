use Rattle.std.proofs.Common.{◌<◌, List, length, map, drop, ap, sym, ◌∙◌, subst, arith}
use Rattle.std.specs.List.{All}
use Rattle.std.proofs.lemmas.List.{length-map, length-append}
use Rattle.pj_value.specs.Columns.{KindedValues}
use Rattle.pj_expr.specs.declared.query.OrderKey.{OrderKey}
use Rattle.pj_group.specs.Indexes.{is_before}
use Rattle.pj_group.specs.Lines.{column_over, keys_in_columns}
use Rattle.pj_group.specs.Slots.{column_at}
use Rattle.pj_group.specs.Standing.{all_items}
use Rattle.pj_group.proofs.FirstLineLemmas.{columns-within, StandsFor-first}
use Rattle.pj_group.proofs.HeldLemmas.{all_items-fit, columns-split}
use Rattle.pj_group.proofs.LineLemmas.{AreFirst-within}
use Rattle.pj_group.proofs.groups.Groups.first.Goals as goal

pub order_columns-orders-requires : goal.order_columns-orders-requires
order_columns-orders-requires c =
    let q = c.args.query.now in
    let kinds = c.requires.stands.0 in
    let st = c.requires.stands.3 in
    let all =
    c.in_ok-columns.ensures kinds st.groups (all_items q) (all_items-fit kinds q c.requires.stands.2) st.slots in
    omega (
      arith,
      ap length c.as_slice.ensures.value,
      ap length all,
      length-map (all_items q) (column_over kinds st.groups),
      length-append q.items (map (λ (key : OrderKey). key.item) q.order),
    )

pub first_lines-requires : goal.first_lines-requires
first_lines-requires c =
    let q = c.args.query.now in
    let kinds = c.requires.stands.0 in
    let st = c.requires.stands.3 in
    let all =
    c.in_ok-columns.ensures kinds st.groups (all_items q) (all_items-fit kinds q c.requires.stands.2) st.slots in
    ap length
    (c.order_columns-orders.ensures ∙ ap (drop (length q.items)) c.as_slice.ensures.value
    ∙ (columns-split kinds st.groups q c.in_ok-columns.columns.items all).1)
    ∙ length-map q.order (λ (key : OrderKey). column_over kinds st.groups key.item)
    ∙ sym (ap length c.as_slice-2.ensures)

pub columns_at-requires : goal.columns_at-requires
columns_at-requires c =
    let q = c.args.query.now in
    let kinds = c.requires.stands.0 in
    let st = c.requires.stands.3 in
    let ps = c.in_ok-first.first.items in
    let all =
    c.in_ok-columns.ensures kinds st.groups (all_items q) (all_items-fit kinds q c.requires.stands.2) st.slots in
    subst (λ (is : List _). All (λ (k : KindedValues). All (λ at. at < length k.values) is) c.in_ok-columns.columns.items)
    (sym c.as_slice-3.ensures.value)
    (subst (All (λ (k : KindedValues). All (λ at. at < length k.values) ps)) (sym all)
    (columns-within kinds st.groups (all_items q) ps
    (subst (λ n. All (λ at. at < n) ps) st.len
    (AreFirst-within (is_before (keys_in_columns c.as_slice-2.result.now c.order_columns-orders.result.now)) _
    c.args.self.len ps c.in_ok-first.ensures))))

pub returns : goal.returns
returns c = λ kinds seen fits st.
    let q = c.args.query.now in
    let columns = c.in_ok-columns.columns.items in
    let first = c.in_ok-first.first in
    let all = c.in_ok-columns.ensures kinds st.groups (all_items q) (all_items-fit kinds q fits) st.slots in
    StandsFor-first q kinds seen c.args.self
    (record { form = c.args.self.form; len = c.len.result; slots = c.in_ok-slots.slots; alloc = c.args.self.alloc })
    c.args.most c.as_slice-2.result.now c.order_columns-orders.result.now columns first.items st c.requires.each
    c.requires.each c.requires.limit c.as_slice-2.ensures
    (c.order_columns-orders.ensures ∙ ap (drop (length q.items)) c.as_slice.ensures.value
    ∙ (columns-split kinds st.groups q columns all).1)
    all c.in_ok-first.ensures (c.len.ensures ∙ first.ok.0)
    (c.in_ok-slots.ensures ∙ ap (λ is. map (column_at is) columns) c.as_slice-3.ensures.value)
