use Rattle.std.proofs.Common.{◌≡◌, ◌<◌, Err, List, length, sym, ap, subst, ◌∙◌}
use Rattle.std.specs.List.{All, AllByRecursion, AllZip}
use Rattle.std.proofs.lemmas.List.FromFn.{length-map-range_with_len}
use Rattle.std.proofs.lemmas.Result.{err_from_is_err_and}
use Rattle.pj_value.specs.Columns.{KindedValues, values_of, row_at}
use Rattle.pj_value.specs.Rows.{KindedRows, rows_in, rows_joined, rows_of_no_columns}
use Rattle.pj_part.specs.declared.part.ColumnFile.{ColumnFile}
use Rattle.pj_part.specs.Formed.{IsFormedColumn}
use Rattle.pj_part.specs.Agreement.{columns_of, HoldsColumn}
use Rattle.pj_read.specs.Spans.{base_of, in_span, picked, span_rows}
use Rattle.pj_read.specs.Causes.{GaveDamageIn}
use Rattle.pj_read.specs.Layout.{IsReadable}
use Rattle.pj_read.specs.declared.fault.ReadPartFault.TheVariants as faults
use Rattle.pj_read.proofs.RowLemmas.{base-readable, base-some, all-formed, is-some, is-none, read-some}
use Rattle.pj_read.proofs.RowLemmas.{rows_joined-columns, picked-none, rows_in-all}
use Rattle.pj_read.proofs.rows.read_rows.Goals as goal

pub rows_of_span-len-requires-clause-some : goal.rows_of_span-len-requires-clause-some
rows_of_span-len-requires-clause-some g c =
    let files = c.as_slice-files.ensures ∙ ap (λ piece. piece.sorted.columns) c.deref.ensures in
    subst (λ (fs : List (ColumnFile g.row.P-Blob.Denot)). 0 < length fs) (sym files)
    (base-some g.P.Blob.Kept.size c.args.part.now c.requires.formed)

pub rows_of_span-len-requires-clause-readable : goal.rows_of_span-len-requires-clause-readable
rows_of_span-len-requires-clause-readable g c =
    let files = c.as_slice-files.ensures ∙ ap (λ piece. piece.sorted.columns) c.deref.ensures in
    subst (AllByRecursion (IsReadable g.P.Blob.Kept.size c.args.span.to)) (sym files)
    (base-readable g.P.Blob.Kept.size c.args.part.now c.requires.formed c.args.span.to
    c.formed_columns_are_whole.ensures.within c.requires.granules)

pub returns-then-is_empty-clause-rows : goal.returns-then-is_empty-clause-rows
returns-then-is_empty-clause-rows g c =
    λ granularity key rows some held.
    let files = c.as_slice-files.ensures ∙ ap (λ piece. piece.sorted.columns) c.deref.ensures in
    let many = ap (λ piece. piece.sorted.rows) c.deref.ensures ∙ held.len in
    let formed = all-formed g.P.Blob.Kept.size g.P.Blob.Kept.told g.P.Blob.Kept.told_whole
    c.written_columns_are_formed.ensures granularity (base_of c.args.part.now).columns rows some held.columns in
    c.of_no_columns.ensures
    ∙ ap rows_of_no_columns (c.rows_of_span-len.ensures granularity
    (subst (λ n. AllByRecursion (IsFormedColumn g.P.Blob.Kept.size granularity n) c.as_slice-files.result.now) (sym many)
    (subst (AllByRecursion (IsFormedColumn g.P.Blob.Kept.size granularity (length rows.rows))) (sym files) formed)))
    ∙ ap (λ n. rows_of_no_columns (span_rows granularity c.args.span n)) many
    ∙ picked-none granularity c.args.span rows
    ∙ ap (λ cs. picked cs (in_span granularity c.args.span rows)) (sym (is-none c.args.columns.now c.if-is_empty.ensures))

pub read_columns-requires-clause-readable : goal.read_columns-requires-clause-readable
read_columns-requires-clause-readable g c κs within =
    let files = c.as_slice-files.ensures ∙ ap (λ piece. piece.sorted.columns) c.deref.ensures in
    subst (AllByRecursion (IsReadable g.P.Blob.Kept.size c.args.span.to)) (sym files)
    (base-readable g.P.Blob.Kept.size c.args.part.now c.requires.formed c.args.span.to
    c.formed_columns_are_whole.ensures.within c.requires.granules)

pub returns-in_err-read-clause-damaged : goal.returns-in_err-read-clause-damaged
returns-in_err-read-clause-damaged g c =
    λ column granule at is.
    let files = c.as_slice-files.ensures ∙ ap (λ piece. piece.sorted.columns) c.deref.ensures in
    let p = err_from_is_err_and c.from_residual.result c.from_residual.ensures.1 in
    let there : Err c.in_err-read.field-0.0 ≡ Err (faults.Damaged column granule at) = (cc (is, p.1, p.2)) in
    subst (λ fs. GaveDamageIn fs c.args.columns.now c.args.span column granule at
    (g.P.Port.reads c.args.port.now) (g.P.Port.reads c.read_columns.new.port) (g.P.Port.last c.read_columns.new.port)) files
    (c.in_err-read.ensures.damaged column granule at there)

pub returns-in_err-read-clause-undamaged : goal.returns-in_err-read-clause-undamaged
returns-in_err-read-clause-undamaged g c =
    λ granularity key rows held column granule at is.
    let files = c.as_slice-files.ensures ∙ ap (λ piece. piece.sorted.columns) c.deref.ensures in
    let p = err_from_is_err_and c.from_residual.result c.from_residual.ensures.1 in
    let there : Err c.in_err-read.field-0.0 ≡ Err (faults.Damaged column granule at) = (cc (is, p.1, p.2)) in
    c.in_err-read.ensures.undamaged granularity rows
    (subst (λ fs. AllZip (HoldsColumn g.P.Blob.Kept.told granularity) fs (columns_of rows)) (sym files) held.columns)
    column granule at there

pub from_columns-requires-clause-lengths : goal.from_columns-requires-clause-lengths
from_columns-requires-clause-lengths g c =
    λ k d l.
    let files = c.as_slice-files.ensures ∙ ap (λ piece. piece.sorted.columns) c.deref.ensures in
    let base = base_of c.args.part.now in
    let table = c.requires.formed.0 in
    let cs = c.in_ok-read.read.items in
    let n = span_rows table.granularity c.args.span base.rows in
    let all : All (λ (v : KindedValues). length v.values ≡ n) cs = c.in_ok-read.ensures.len table.granularity base.rows
    (subst (AllByRecursion (IsFormedColumn g.P.Blob.Kept.size table.granularity base.rows)) (sym files)
    c.requires.formed.2.base.files) in
    let some = read-some c.args.columns.now _ cs c.in_ok-read.ensures.kinds
    (is-some c.args.columns.now c.if-is_empty.ensures) in
    all k d l ∙ sym (rows_in-all n cs some all)

pub returns-clause-rows : goal.returns-clause-rows
returns-clause-rows g c =
    λ granularity key rows some held.
    let files = c.as_slice-files.ensures ∙ ap (λ piece. piece.sorted.columns) c.deref.ensures in
    c.in_ok-from_columns.ensures
    ∙ ap rows_joined (c.in_ok-read.ensures.held granularity rows
    (subst (λ fs. AllZip (HoldsColumn g.P.Blob.Kept.told granularity) fs (columns_of rows)) (sym files) held.columns))
    ∙ rows_joined-columns (in_span granularity c.args.span rows) c.args.columns.now
    (is-some c.args.columns.now c.if-is_empty.ensures)

pub returns-clause-len : goal.returns-clause-len
returns-clause-len g c =
    λ table fits formed.
    let files = c.as_slice-files.ensures ∙ ap (λ piece. piece.sorted.columns) c.deref.ensures in
    let base = base_of c.args.part.now in
    let cs = c.in_ok-read.read.items in
    let n = span_rows table.granularity c.args.span base.rows in
    let all : All (λ (v : KindedValues). length v.values ≡ n) cs = c.in_ok-read.ensures.len table.granularity base.rows
    (subst (AllByRecursion (IsFormedColumn g.P.Blob.Kept.size table.granularity base.rows)) (sym files)
    formed.base.files) in
    let some = read-some c.args.columns.now _ cs c.in_ok-read.ensures.kinds
    (is-some c.args.columns.now c.if-is_empty.ensures) in
    ap (λ (r : KindedRows). length r.rows) c.in_ok-from_columns.ensures
    ∙ length-map-range_with_len (row_at (values_of cs)) 0 (rows_in cs)
    ∙ rows_in-all n cs some all
