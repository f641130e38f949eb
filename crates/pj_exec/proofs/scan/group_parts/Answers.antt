use Rattle.std.proofs.Common.{◌≡◌, ◌<◌, ◌++◌, [], Err, length}
use Rattle.std.proofs.Common.{refl, sym, ap, subst, ◌∙◌, arith}
use Rattle.std.specs.List.{slice_get}
use Rattle.std.proofs.lemmas.Option.{slice_get_read}
use Rattle.std.proofs.lemmas.Result.{err_from_is_err_and, IfOk-from_err}
use Rattle.pj_value.specs.Rows.{HaveKinds}
use Rattle.pj_expr.specs.Tables.{kinds_of}
use Rattle.pj_expr.specs.Fits.{FitsQuery}
use Rattle.pj_part.specs.Formed.{kinds_at}
use Rattle.pj_group.specs.Standing.{StandsFor}
use Rattle.pj_exec.specs.Scans.{IsUnmasked}
use Rattle.pj_exec.specs.Layout.{HoldsPart}
use Rattle.pj_exec.specs.declared.fault.SelectFault.TheVariants as faults
use Rattle.pj_exec.proofs.ScanLemmas.{AllZip-length, HaveKinds-append, part-is, part-zip}
use Rattle.pj_exec.proofs.ScanLemmas.{granules-more, granules-more_le, rows-more}
use Rattle.pj_exec.proofs.scan.group_parts.Goals as goal

pub returns-in_err-rows-clause-reads : goal.returns-in_err-rows-clause-reads
returns-in_err-rows-clause-reads g c =
    let parts = c.args.parts.now in
    let i = c.scan.index in
    let l : i < length parts = omega arith in
    let part = c.index-parts-index.result in
    let more = granules-more_le parts i part l c.index-parts-index.is c.args.columns.now in
    record {
      exact = IfOk-from_err _ _ c.from_residual-in_err-rows.ensures.0;
      at_most = (
        omega (arith, c.scan.invariant.reads, c.in_err-rows.ensures.reads.at_most),
        omega (arith, more, c.scan.invariant.reads, c.in_err-rows.ensures.reads.at_most),
      );
    }

pub returns-in_err-rows-clause-damaged : goal.returns-in_err-rows-clause-damaged
returns-in_err-rows-clause-damaged g c =
    λ part column granule at is.
    let r = c.from_residual-in_err-rows in
    let p = err_from_is_err_and r.result r.ensures.1 in
    let there : Err c.in_err-rows.field-0.0 ≡ Err (faults.Damaged part column granule at) =
    (cc (is, p.1, p.2)) in
    let h = c.in_err-rows.ensures.damaged part column granule at there in
    let parts = c.args.parts.now in
    let i = c.scan.index in
    let l : i < length parts = omega arith in
    record {
      part = c.index-parts-index.result;
      part_is = ap (slice_get parts) h.0
          ∙ slice_get_read parts (length parts) i c.index-parts-index.result refl l c.index-parts-index.is;
      gave = record {
        rose = omega (arith, h.1.rose, c.scan.invariant.reads);
        asked = h.1.asked;
        file = h.1.file;
        file_is = h.1.file_is;
        from = h.1.from;
        to = h.1.to;
        gave = h.1.gave;
      };
    }

pub returns-in_err-rows-clause-undamaged : goal.returns-in_err-rows-clause-undamaged
returns-in_err-rows-clause-undamaged g c =
    λ all held part column granule at is.
    let r = c.from_residual-in_err-rows in
    let p = err_from_is_err_and r.result r.ensures.1 in
    let there : Err c.in_err-rows.field-0.0 ≡ Err (faults.Damaged part column granule at) =
    (cc (is, p.1, p.2)) in
    let parts = c.args.parts.now in
    let i = c.scan.index in
    let l : i < length parts = omega arith in
    c.in_err-rows.ensures.undamaged c.args.table.now _
    (part-zip parts i c.index-parts-index.result l c.index-parts-index.is
    (HoldsPart g.P.Blob.Kept.told c.args.table.now) all [] held)
    part column granule at there

pub add_rows-requires-clause-fits : goal.add_rows-requires-clause-fits
add_rows-requires-clause-fits g c =
    let parts = c.args.parts.now in
    let l : c.scan.index < length parts = omega arith in
    let one = part-is parts c.scan.index c.index-parts-index.result l c.index-parts-index.is
    (IsUnmasked g.P.Blob.Kept.size c.args.table.now) c.requires.parts in
    let kinds_are : c.in_ok-rows.rows.kinds ≡ kinds_at (kinds_of c.args.table.now) c.args.columns.now =
    c.in_ok-rows.ensures.kinds ∙ ap (λ ks. kinds_at ks c.args.columns.now) one.formed.base.kinds in
    subst (λ ks. FitsQuery ks c.args.query.now) (sym kinds_are) c.requires.fits

pub add_rows-requires-clause-stands : goal.add_rows-requires-clause-stands
add_rows-requires-clause-stands g c =
    let parts = c.args.parts.now in
    let l : c.scan.index < length parts = omega arith in
    let one = part-is parts c.scan.index c.index-parts-index.result l c.index-parts-index.is
    (IsUnmasked g.P.Blob.Kept.size c.args.table.now) c.requires.parts in
    let kinds_are : c.in_ok-rows.rows.kinds ≡ kinds_at (kinds_of c.args.table.now) c.args.columns.now =
    c.in_ok-rows.ensures.kinds ∙ ap (λ ks. kinds_at ks c.args.columns.now) one.formed.base.kinds in
    let so_far = c.scan.invariant.stands in (
      so_far.seen,
      subst (λ ks. StandsFor c.args.query.now ks so_far.seen c.scan.groups) (sym kinds_are) so_far.stands,
    )

pub returns-in_err-groups-2-clause-reads : goal.returns-in_err-groups-2-clause-reads
returns-in_err-groups-2-clause-reads g c =
    let parts = c.args.parts.now in
    let i = c.scan.index in
    let l : i < length parts = omega arith in
    let part = c.index-parts-index.result in
    let more = granules-more_le parts i part l c.index-parts-index.is c.args.columns.now in
    record {
      exact = IfOk-from_err _ _ c.from_residual-in_err-groups-2.ensures.0;
      at_most = (
        omega (arith, c.scan.invariant.reads, c.in_ok-rows.ensures.reads.at_most),
        omega (arith, more, c.scan.invariant.reads, c.in_ok-rows.ensures.reads.at_most),
      );
    }

pub scan-preserved : goal.scan-preserved
scan-preserved g c =
    let parts = c.args.parts.now in
    let columns = c.args.columns.now in
    let table = c.args.table.now in
    let query = c.args.query.now in
    let i = c.scan.index in
    let l : i < length parts = omega arith in
    let part = c.index-parts-index.result in
    let there = c.index-parts-index.is in
    let one = part-is parts i part l there (IsUnmasked g.P.Blob.Kept.size table) c.requires.parts in
    let kinds = kinds_at (kinds_of table) columns in
    let read = c.in_ok-rows.rows in
    let kinds_are : read.kinds ≡ kinds =
    c.in_ok-rows.ensures.kinds ∙ ap (λ ks. kinds_at ks columns) one.formed.base.kinds in
    let so_far = c.scan.invariant.stands in
    let R = HoldsPart g.P.Blob.Kept.told table in
    record {
      stands = record {
        seen = so_far.seen ++ read.rows;
        shape = HaveKinds-append kinds so_far.seen read.rows so_far.shape
            (subst (λ ks. HaveKinds ks read.rows) kinds_are c.in_ok-rows.ensures.shape);
        stands = subst (λ ks. StandsFor query ks (so_far.seen ++ read.rows) c.in_ok-groups-2.groups) kinds_are
            (c.in_ok-groups-2.ensures so_far.seen
            (subst (λ ks. StandsFor query ks so_far.seen c.scan.groups) (sym kinds_are) so_far.stands));
        held = λ all held.
            let m : i < length all = omega (arith, l, AllZip-length R parts all held) in
            (λ j. so_far.held all held j
            ++ c.in_ok-rows.ensures.rows table _ c.requires.table one
            (part-zip parts i part l there R all [] held) j)
            ∙ sym (rows-more columns all i [] m);
      };
      faults = c.in_ok-rows.ensures.faults.calm (λ e. cc (e)) ∙ c.scan.invariant.faults;
      reads = omega (
        arith,
        c.in_ok-rows.ensures.reads.exact,
        c.scan.invariant.reads,
        granules-more parts i part l there columns,
      );
    }
