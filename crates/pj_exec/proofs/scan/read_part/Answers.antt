use Rattle.std.proofs.Common.{◌≡◌, Err, length, ap, subst, ◌∙◌}
use Rattle.pj_value.specs.Rows.{KindedRows}
use Rattle.pj_expr.specs.Tables.{kinds_of}
use Rattle.pj_part.specs.Formed.{granule_count}
use Rattle.pj_read.specs.Spans.{base_of, picked}
use Rattle.pj_read.specs.Causes.{GaveDamageIn}
use Rattle.pj_read.specs.declared.fault.ReadPartFault.TheVariants as read_faults
use Rattle.pj_exec.specs.Scans.{granules_of}
use Rattle.pj_exec.proofs.ScanLemmas.{all-rows}
use Rattle.pj_exec.proofs.scan.read_part.Goals as goal

pub returns-in-Ok-clause-rows : goal.returns-in-Ok-clause-rows
returns-in-Ok-clause-rows g c =
    λ table rows fits unmasked held.
    let all : KindedRows = record { kinds = kinds_of table; rows = rows } in
    let many : c.len-to.result ≡ granule_count table.granularity (length rows) =
    c.len-to.ensures ∙ ap (λ piece. length piece.sorted.index.firsts.rows) c.deref.ensures
    ∙ unmasked.formed.base.index.granules ∙ ap (granule_count table.granularity) held.len in
    ap (λ (r : KindedRows). r.rows) (c.in-Ok.ensures.rows table.granularity table.key all fits.some_rows held)
    ∙ ap (λ r. (picked c.args.columns.now r).rows)
    (all-rows table.granularity c.len-to.result all fits.some_rows many)

pub returns-in-Err-Damaged-clause-damaged : goal.returns-in-Err-Damaged-clause-damaged
returns-in-Err-Damaged-clause-damaged g c =
    λ part column granule at is.
    let many : c.len-to.result ≡ granules_of c.args.part.now =
    c.len-to.ensures ∙ ap (λ piece. length piece.sorted.index.firsts.rows) c.deref.ensures in
    let there : Err c.in-Err-Damaged.field-0 ≡ Err (read_faults.Damaged column granule at) =
    (cc (is, c.in-Err-Damaged.field-0-is)) in (
      (cc (is)),
      subst (λ n. GaveDamageIn (base_of c.args.part.now).columns c.args.columns.now
          (record { from = 0; to = n }) column granule at (g.P.Port.reads c.args.port.now)
          (g.P.Port.reads c.read_rows.new.port) (g.P.Port.last c.read_rows.new.port))
          many (c.in-Err-Damaged.ensures.damaged column granule at there),
    )

pub returns-in-Err-Damaged-clause-undamaged : goal.returns-in-Err-Damaged-clause-undamaged
returns-in-Err-Damaged-clause-undamaged g c =
    λ table rows held part column granule at is.
    c.in-Err-Damaged.ensures.undamaged table.granularity table.key
    (record { kinds = kinds_of table; rows = rows }) held
    c.in-Err-Damaged.column c.in-Err-Damaged.granule c.in-Err-Damaged.at
    (λ i. Err (c.in-Err-Damaged.field-0-is i))
