use Rattle.std.proofs.Common.{◌≡◌, length, map, refl, ap, ◌∙◌}
use Rattle.std.specs.List.{filter}
use Rattle.std.proofs.lemmas.List.{length-map}
use Rattle.std.proofs.lemmas.List.Elements.{All-from_recursion}
use Rattle.pj_value.specs.Rows.{KindedRows, rows_at}
use Rattle.pj_expr.specs.declared.query.OrderKey.{OrderKey}
use Rattle.pj_expr.specs.Eval.{holds}
use Rattle.pj_expr.specs.Fits.{FitsItem}
use Rattle.pj_answer.specs.Answers.{groups_of, item_kind}
use Rattle.pj_answer.specs.Rows.{of_kinds, item_row, kept_groups}
use Rattle.pj_answer.proofs.AnswerLemmas.{groups_kinds, items_shapes, keys_shapes, keys_items}
use Rattle.pj_answer.proofs.AnswerLemmas.{indexes_within, first_within}
use Rattle.pj_answer.proofs.AnswerLemmas.{outputs_are, orders_are, answers_from}
use Rattle.pj_answer.proofs.answers.answer.Goals as goal

pub item_rows-requires-clause-kinds : goal.item_rows-requires-clause-kinds
item_rows-requires-clause-kinds c =
    let q = c.args.query.now in
    let rows = c.args.rows.now in
    rw (c.as_slice-2.ensures.value, c.in_ok-groups.ensures, c.kinds-kinds.ensures.kinds)
    (groups_kinds rows.kinds (groups_of q (filter (holds q.filter) rows.rows)))

pub item_rows-requires-clause-shape : goal.item_rows-requires-clause-shape
item_rows-requires-clause-shape c =
    rw (c.as_slice-2.ensures.value, c.in_ok-groups.ensures, c.kinds-kinds.ensures.kinds, c.as_slice.ensures)
    (items_shapes c.args.query.now c.args.rows.now c.kinds-kinds.ensures.shape c.requires.fits)

pub item_rows-requires-2-clause-fits : goal.item_rows-requires-2-clause-fits
item_rows-requires-2-clause-fits c =
    let q = c.args.query.now in
    let rows = c.args.rows.now in
    rw (c.as_slice-4.ensures.value, c.in_ok-keys.ensures, c.as_slice-3.ensures, c.kinds-kinds.ensures.kinds)
    (All-from_recursion (FitsItem rows.kinds) (map (λ (key : OrderKey). key.item) q.order)
    (keys_items (FitsItem rows.kinds) q.order c.requires.fits.kinds.order))

pub item_rows-requires-2-clause-kinds : goal.item_rows-requires-2-clause-kinds
item_rows-requires-2-clause-kinds c =
    let q = c.args.query.now in
    let rows = c.args.rows.now in
    rw (c.as_slice-5.ensures.value, c.in_ok-groups.ensures, c.kinds-kinds.ensures.kinds)
    (groups_kinds rows.kinds (groups_of q (filter (holds q.filter) rows.rows)))

pub item_rows-requires-2-clause-shape : goal.item_rows-requires-2-clause-shape
item_rows-requires-2-clause-shape c =
    rw (
      c.as_slice-5.ensures.value,
      c.in_ok-groups.ensures,
      c.kinds-kinds.ensures.kinds,
      c.as_slice-4.ensures.value,
      c.in_ok-keys.ensures,
      c.as_slice-3.ensures,
    )
    (keys_shapes c.args.query.now c.args.rows.now c.kinds-kinds.ensures.shape c.requires.fits)

pub gather-requires : goal.gather-requires
gather-requires c =
    let ps = c.in_ok-arrangement.arrangement.items in
    let n = length c.in_ok-order.order.rows in
    let groups = c.in_ok-groups.groups.items in
    let outs : length c.in_ok-output.output.rows ≡ length groups =
    ap (λ (r : KindedRows). length r.rows) c.in_ok-output.ensures ∙ length-map c.as_slice-2.result.now _
    ∙ ap length c.as_slice-2.ensures.value in
    let orders : n ≡ length groups =
    ap (λ (r : KindedRows). length r.rows) c.in_ok-order.ensures ∙ length-map c.as_slice-5.result.now _
    ∙ ap length c.as_slice-5.ensures.value in
    rw (c.as_slice-7.ensures.value, c.cut_to-first.ensures, outs, ← orders)
    (first_within n c.args.query.now.limit ps (indexes_within n ps c.in_ok-arrangement.ensures.each_once))

pub returns : goal.returns
returns c =
    let q = c.args.query.now in
    let rows = c.args.rows.now in
    let output = c.in_ok-output.output in
    let order = c.in_ok-order.order in
    let ps = c.in_ok-arrangement.arrangement.items in
    let keys = map (λ (key : OrderKey). key.item) q.order in
    let o : output ≡ of_kinds (map (item_kind rows.kinds) q.items)
    (map (item_row q.items) (kept_groups q rows)) =
    rw (c.kinds-kinds.ensures.kinds, c.as_slice.ensures, c.as_slice-2.ensures.value, c.in_ok-groups.ensures)
    at c.in_ok-output.ensures in
    let r : order ≡ of_kinds (map (item_kind rows.kinds) keys) (map (item_row keys) (kept_groups q rows)) =
    rw (
      c.kinds-kinds.ensures.kinds,
      c.as_slice-4.ensures.value,
      c.in_ok-keys.ensures,
      c.as_slice-3.ensures,
      c.as_slice-5.ensures.value,
      c.in_ok-groups.ensures,
    )
    at c.in_ok-order.ensures in
    answers_from q rows c.in_ok-out.out output.rows order.rows ps
    (ap (λ (k : KindedRows). k.rows) o ∙ outputs_are q rows)
    (ap (λ (k : KindedRows). k.rows) r ∙ orders_are q rows keys refl)
    c.in_ok-arrangement.ensures.each_once (rw c.as_slice-6.ensures at c.in_ok-arrangement.ensures.sorted)
    (ap (λ (k : KindedRows). k.rows) c.in_ok-out.ensures
    ∙ ap (rows_at output.rows) (c.as_slice-7.ensures.value ∙ c.cut_to-first.ensures))
    (ap (λ (k : KindedRows). k.kinds) c.in_ok-out.ensures ∙ ap (λ (k : KindedRows). k.kinds) o)
