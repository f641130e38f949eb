use Rattle.std.specs.List.{All, slice_get}
use Rattle.std.proofs.Common.{◌≡◌, ◌+◌, ◌-◌, ◌<◌, ◌++◌, [], ◌∷◌, Err, length, map, get_or, refl, sym, ap, subst, ◌∙◌, arith}
use Rattle.std.proofs.lemmas.Grind.{get_or_default_zero}
use Rattle.std.proofs.lemmas.List.{map-append}
use Rattle.std.proofs.lemmas.List.Elements.{All-push}
use Rattle.std.proofs.lemmas.Option.{slice_get_read}
use Rattle.std.proofs.lemmas.Result.{err_from_is_err_and, IfOk-from_err}
use Rattle.pj_value.specs.declared.value.Kind.TheVariants as kinds
use Rattle.pj_value.specs.Columns.{KindedValues}
use Rattle.pj_value.specs.Rows.{column_of}
use Rattle.pj_read.specs.Spans.{in_span, span_rows}
use Rattle.pj_read.specs.declared.fault.ReadPartFault.TheVariants as faults
use Rattle.pj_read.proofs.ColumnLemmas.{map-take_more, reads-more, file-is, file-kind, file-held, column_of-in_span}
use Rattle.pj_read.proofs.columns.read_columns.Goals as goal

pub returns-in_err-read_column-clause-reads : goal.returns-in_err-read_column-clause-reads
returns-in_err-read_column-clause-reads g c =
    let more = reads-more (length c.args.columns.now) c.picks.at-index (c.args.span.to - c.args.span.from) (omega arith) in
    record {
      exact = IfOk-from_err _ _ c.from_residual-in_err-read_column.ensures.0;
      at_most = (
        omega (arith, c.picks.invariant.reads, c.in_err-read_column.ensures.reads.at_most),
        omega (arith, more, c.picks.invariant.reads, c.in_err-read_column.ensures.reads.at_most),
      );
    }

pub returns-in_err-read_column-clause-damaged : goal.returns-in_err-read_column-clause-damaged
returns-in_err-read_column-clause-damaged g c =
    λ column granule at is.
    let r = c.from_residual-in_err-read_column in
    let p = err_from_is_err_and r.result r.ensures.1 in
    let there : Err c.in_err-read_column.field-0.0 ≡ Err (faults.Damaged column granule at) = (cc (is, p.1, p.2)) in
    let h = c.in_err-read_column.ensures.damaged column granule at there in
    let i = c.picks.at-index in
    let l : i < length c.args.columns.now = omega arith in
    let within : get_or c.args.columns.now i 0 < length c.args.files.now = c.requires.columns i 0 l in
    record {
      rose = omega (arith, h.rose, c.picks.invariant.reads);
      asked = (i, l, get_or_default_zero c.args.columns.now i column l ∙ sym h.column_is);
      file = c.index-files-at.result;
      file_is = ap (slice_get c.args.files.now) h.column_is
          ∙ slice_get_read c.args.files.now (length c.args.files.now) (get_or c.args.columns.now i 0) c.index-files-at.result
          refl within c.index-files-at.is;
      from = h.from;
      to = h.to;
      gave = h.gave;
    }

pub returns-in_err-read_column-clause-undamaged : goal.returns-in_err-read_column-clause-undamaged
returns-in_err-read_column-clause-undamaged g c =
    λ granularity rows held column granule at is.
    let r = c.from_residual-in_err-read_column in
    let p = err_from_is_err_and r.result r.ensures.1 in
    let there : Err c.in_err-read_column.field-0.0 ≡ Err (faults.Damaged column granule at) = (cc (is, p.1, p.2)) in
    let i = c.picks.at-index in
    let l : i < length c.args.columns.now = omega arith in
    let pick = get_or c.args.columns.now i 0 in
    c.in_err-read_column.ensures.undamaged granularity (column_of rows pick)
    (file-held c.args.files.now pick c.index-files-at.result (c.requires.columns i 0 l) c.index-files-at.is
    g.P.Blob.Kept.told granularity rows held)
    column granule at there

pub returns-in_err-push-clause-reads : goal.returns-in_err-push-clause-reads
returns-in_err-push-clause-reads g c =
    let more = reads-more (length c.args.columns.now) c.picks.at-index (c.args.span.to - c.args.span.from) (omega arith) in
    record {
      exact = IfOk-from_err _ _ c.from_residual-in_err-push.ensures.0;
      at_most = (
        omega (arith, c.picks.invariant.reads, c.in_ok-read_column.ensures.reads.at_most),
        omega (arith, more, c.picks.invariant.reads, c.in_ok-read_column.ensures.reads.at_most),
      );
    }

pub picks-preserved : goal.picks-preserved
picks-preserved g c =
    let i = c.picks.at-index in
    let columns = c.args.columns.now in
    let files = c.args.files.now in
    let span = c.args.span in
    let pick = get_or columns i 0 in
    let l : i < length columns = omega arith in
    let within : pick < length files = c.requires.columns i 0 l in
    let file = c.index-files-at.result in
    let there = c.index-files-at.is in
    let fresh = c.in_ok-push.ensures.items in
    let so_far = c.picks.invariant in
    let more = c.in_ok-read_column.ensures in
    record {
      held = λ granularity rows held.
          fresh
          ∙ (λ j. so_far.held granularity rows held j
          ++ (more.held granularity (column_of rows pick) (file-held files pick file within there g.P.Blob.Kept.told granularity rows held)
          ∙ column_of-in_span granularity span rows pick) j ∷ [])
          ∙ sym (map-take_more (column_of (in_span granularity span rows)) columns i l);
      kinds = ap (map (λ (v : KindedValues). v.kind)) fresh
          ∙ map-append (λ (v : KindedValues). v.kind) c.picks.read.items (c.in_ok-read_column.field-0 ∷ [])
          ∙ (λ j. so_far.kinds j ++ (more.kind ∙ file-kind files pick file within there) j ∷ [])
          ∙ sym (map-take_more (λ at. get_or (map (λ (f : _). f.kind) files) at kinds.Num) columns i l);
      len = λ granularity rows formed.
          let P : KindedValues → Type 0 = λ v. length v.values ≡ span_rows granularity span rows in
          subst (All P) (sym fresh)
          (All-push P c.picks.read.items c.in_ok-read_column.field-0 (so_far.len granularity rows formed)
          (more.len granularity rows (file-is files pick file within there _ formed).granules));
      faults = more.faults.calm (λ e. cc (e)) ∙ so_far.faults;
      reads =
          let next = reads-more (i + 1) i (span.to - span.from) (omega arith) in
          omega (arith, more.reads.exact, so_far.reads);
    }
