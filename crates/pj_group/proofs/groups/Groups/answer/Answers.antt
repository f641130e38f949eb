use Rattle.std.proofs.Common.{◌≡◌, length, map, take, drop, ap, sym, ◌∙◌, subst, arith}
use Rattle.std.specs.List.{All}
use Rattle.std.proofs.lemmas.List.{length-map, length-append}
use Rattle.pj_value.specs.Columns.{KindedValues}
use Rattle.pj_expr.specs.declared.query.OrderKey.{OrderKey}
use Rattle.pj_group.specs.Indexes.{is_before}
use Rattle.pj_group.specs.Lines.{column_over, keys_in_columns, lines_of, rows_in_columns, AreFirstLines}
use Rattle.pj_group.specs.Standing.{all_items}
use Rattle.pj_group.proofs.FirstLineLemmas.{answers-held}
use Rattle.pj_group.proofs.HeldLemmas.{all_items-fit, columns-split}
use Rattle.pj_group.proofs.LineLemmas.{columns-lengths, rows_in_columns-lines}
use Rattle.pj_group.proofs.groups.Groups.answer.Goals as goal

pub split_off-requires : goal.split_off-requires
split_off-requires c =
    let q = c.args.query.now in
    let kinds = c.requires.0 in
    let st = c.requires.3 in
    let all = c.in_ok-outputs.ensures kinds st.groups (all_items q) (all_items-fit kinds q c.requires.2) st.slots in
    omega (
      arith,
      ap length c.as_slice.ensures,
      c.in_ok-outputs.outputs.ok.0,
      ap length all,
      length-map (all_items q) (column_over kinds st.groups),
      length-append q.items (map (λ (key : OrderKey). key.item) q.order),
    )

pub rows_of_columns-requires : goal.rows_of_columns-requires
rows_of_columns-requires c =
    let q = c.args.query.now in
    let kinds = c.requires.0 in
    let st = c.requires.3 in
    let all = c.in_ok-outputs.ensures kinds st.groups (all_items q) (all_items-fit kinds q c.requires.2) st.slots in
    let split = columns-split kinds st.groups q c.in_ok-outputs.outputs.items all in
    let own : c.split_off.new.self.items ≡ map (column_over kinds st.groups) q.items =
    c.in_ok-orders.ensures.items ∙ ap (λ is. take (length is) c.in_ok-outputs.outputs.items) c.as_slice.ensures
    ∙ split.0 in
    subst (λ cs. All (λ (k : KindedValues). length k.values ≡ c.args.self.len) cs) (sym own)
    (subst (λ n. All (λ (k : KindedValues). length k.values ≡ n) (map (column_over kinds st.groups) q.items))
    (sym st.len) (columns-lengths kinds st.groups q.items))

pub arranged-requires : goal.arranged-requires
arranged-requires c =
    let q = c.args.query.now in
    let kinds = c.requires.0 in
    let st = c.requires.3 in
    let all = c.in_ok-outputs.ensures kinds st.groups (all_items q) (all_items-fit kinds q c.requires.2) st.slots in
    let split = columns-split kinds st.groups q c.in_ok-outputs.outputs.items all in
    ap length
    (c.as_slice-3.ensures.value ∙ c.in_ok-orders.ensures.tail
    ∙ ap (λ is. drop (length is) c.in_ok-outputs.outputs.items) c.as_slice.ensures ∙ split.1)
    ∙ length-map q.order (λ (key : OrderKey). column_over kinds st.groups key.item)
    ∙ sym (ap length c.as_slice-2.ensures)

pub returns : goal.returns
returns c = λ kinds seen fits st.
    let q = c.args.query.now in
    let groups = st.groups in
    let all = c.in_ok-outputs.ensures kinds groups (all_items q) (all_items-fit kinds q fits) st.slots in
    let split = columns-split kinds groups q c.in_ok-outputs.outputs.items all in
    let own : c.split_off.new.self.items ≡ map (column_over kinds groups) q.items =
    c.in_ok-orders.ensures.items ∙ ap (λ is. take (length is) c.in_ok-outputs.outputs.items) c.as_slice.ensures
    ∙ split.0 in
    let orders : c.as_slice-3.result.now ≡ map (λ (key : OrderKey). column_over kinds groups key.item) q.order =
    c.as_slice-3.ensures.value ∙ c.in_ok-orders.ensures.tail
    ∙ ap (λ is. drop (length is) c.in_ok-outputs.outputs.items) c.as_slice.ensures ∙ split.1 in
    let lines : c.in_ok-lines.lines ≡ lines_of kinds q.items groups =
    c.in_ok-lines.ensures ∙ (λ i. rows_in_columns (own i) (st.len i))
    ∙ rows_in_columns-lines kinds groups q.items in
    answers-held q (record { kinds = kinds; rows = seen }) c.in_ok-out.out st.held_rows c.args.self.form groups
    st.enough st.divided
    (subst (λ ls. AreFirstLines
    (is_before (keys_in_columns q.order (map (λ (key : OrderKey). column_over kinds groups key.item) q.order)))
    q.limit ls c.in_ok-out.out) lines
    (subst (λ cs. AreFirstLines (is_before (keys_in_columns q.order cs)) q.limit c.in_ok-lines.lines c.in_ok-out.out)
    orders
    (subst (λ keys. AreFirstLines (is_before (keys_in_columns keys c.as_slice-3.result.now)) q.limit
    c.in_ok-lines.lines c.in_ok-out.out) c.as_slice-2.ensures c.in_ok-out.ensures)))
