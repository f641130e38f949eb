use Rattle.std.proofs.Common.{[], ◌∷◌, map, ap, sym, ◌∙◌}
use Rattle.std.specs.Prelude.{if◌then◌else◌}
use Rattle.pj_value.specs.Values.{kind_of}
use Rattle.pj_value.specs.Rows.{KindedRows}
use Rattle.pj_answer.specs.Answers.{first_row, item_kind}
use Rattle.pj_group.specs.Counts.{value_with}
use Rattle.pj_group.proofs.CountLemmas.{kinds-counts}
use Rattle.pj_group.proofs.counts.counts_row.Goals as goal

pub with_row-requires : goal.with_row-requires
with_row-requires c =
    let rows = c.args.rows.now in
    let value = value_with (first_row rows.rows) c.args.count in
    ap (map kind_of) (c.as_slice-then-leaves_row.ensures.value ∙ c.in_ok-row.ensures
    ∙ ap (map value) c.as_slice-items.ensures)
    ∙ kinds-counts rows.kinds (first_row rows.rows) c.args.count c.args.query.now c.requires.fits
    c.requires.aggregates c.requires.counts
    ∙ sym (ap (λ (r : KindedRows). r.kinds) c.in_ok-out.ensures ∙ c.as_slice.ensures.value
    ∙ c.in_ok-kinds.ensures
    ∙ (λ i. map (item_kind (c.kinds.ensures.kinds i)) (c.as_slice-items.ensures i)))

pub returns : goal.returns
returns c =
    let rows = c.args.rows.now in
    let items = c.args.query.now.items in
    let shape = c.as_slice.ensures.value ∙ c.in_ok-kinds.ensures
    ∙ (λ i. map (item_kind (c.kinds.ensures.kinds i)) (c.as_slice-items.ensures i)) in
    let left = ap (λ b. if b then map (value_with (first_row rows.rows) c.args.count) items ∷ [] else [])
    (sym c.if-leaves_row.false ∙ c.leaves_row.ensures) in
    c.in_ok-out.ensures ∙ (λ i. record { kinds = shape i; rows = left i })
