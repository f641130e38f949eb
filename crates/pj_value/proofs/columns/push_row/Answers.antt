use Rattle.std.proofs.Common.{◌<◌, ◌∷◌, [], length, take, arith, ap, sym, ◌∙◌, Err}
use Rattle.std.proofs.lemmas.List.{get_or-map, length-map}
use Rattle.std.proofs.lemmas.Result.{err_from_is_err_and}
use Rattle.pj_value.specs.Values.{kind_of}
use Rattle.pj_value.specs.Columns.{kinds_of}
use Rattle.pj_value.specs.Layout.{columns_of_row}
use Rattle.pj_value.proofs.LayoutLemmas.{joined-none, kinds_of-joined, length-joined, length-row}
use Rattle.pj_value.proofs.LayoutLemmas.{kind_of_row_at, joined-take_more}
use Rattle.pj_value.proofs.columns.push_row.Goals as goal

pub loop-at-init : goal.loop-at-init
loop-at-init c = sym (joined-none _)

pub index_mut-requires : goal.index_mut-requires
index_mut-requires c =
    let l : c.loop-at.at < length c.args.row.now = omega arith in
    omega (
      arith,
      ap length c.loop-at.invariant,
      length-joined c.args.columns.now.items (take c.loop-at.at (columns_of_row c.args.row.now)),
      length-row c.args.row.now c.args.columns.now.items c.requires,
    )

pub returns-in_err-push-clause-shape : goal.returns-in_err-push-clause-shape
returns-in_err-push-clause-shape c =
    let p = err_from_is_err_and c.from_residual-in_err-push.result c.from_residual-in_err-push.ensures.1 in
    λ h. c.in_err-push.ensures.shape.0 (ap Err (sym p.2) ∙ sym p.1 ∙ h)
    (ap kind_of c.in_ok-duplicate.ensures
    ∙ kind_of_row_at c.args.row.now c.loop-at.columns.items c.loop-at.at
    c.index-row-at.result c.index_mut.result.now
    (c.requires
    ∙ sym (kinds_of-joined c.args.columns.now.items (take c.loop-at.at (columns_of_row c.args.row.now)))
    ∙ ap kinds_of (sym c.loop-at.invariant))
    (omega arith) c.index-row-at.is c.index_mut.ensures.value)

pub loop-at-preserved : goal.loop-at-preserved
loop-at-preserved c =
    let l : c.loop-at.at < length c.args.row.now = omega arith in
    rw (c.in_ok-push.ensures.added)
    (joined-take_more c.loop-at.columns.items c.args.columns.now.items (columns_of_row c.args.row.now)
    c.loop-at.at c.index_mut.result.now (c.in_ok-duplicate.field-0 ∷ [])
    c.loop-at.invariant
    (rw (← length-row c.args.row.now c.args.columns.now.items c.requires) l)
    (rw length-map l)
    c.index_mut.ensures.value
    (ap (λ x. x ∷ []) (c.in_ok-duplicate.ensures ∙ c.index-row-at.is)
    ∙ sym (get_or-map (λ x. x ∷ []) c.args.row.now c.loop-at.at c.index-row-at.result
    (c.in_ok-duplicate.field-0 ∷ []) l)))
