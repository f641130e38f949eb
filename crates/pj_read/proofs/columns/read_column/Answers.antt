use Rattle.std.proofs.Common.{◌≡◌, ◌+◌, ◌≤◌, ◌++◌, Err, length, sym, ap, subst, ◌∙◌, arith, length-append}
use Rattle.std.proofs.lemmas.Result.{err_from_is_err_and}
use Rattle.pj_value.specs.Columns.{KindedValues, no_values}
use Rattle.pj_read.specs.Causes.{GaveDamage}
use Rattle.pj_read.specs.declared.fault.ReadPartFault.TheVariants as faults
use Rattle.pj_read.proofs.SpanLemmas.{span_rows-none, span_rows-more, part-none, part-more}
use Rattle.pj_read.proofs.columns.read_column.Goals as goal

pub granules-init : goal.granules-init
granules-init g c = record {
  held = λ granularity values held.
      c.new-read.ensures ∙ ap no_values held.kind ∙ part-none granularity c.args.span.from values;
  kind = ap (λ (v : KindedValues). v.kind) c.new-read.ensures;
  len = λ granularity rows e.
      ap (λ (v : KindedValues). length v.values) c.new-read.ensures ∙ span_rows-none _ rows;
  faults = λ i. g.P.Port.faults c.args.port.now;
  reads = omega arith;
}

pub granules-preserved : goal.granules-preserved
granules-preserved g c =
    let from = c.args.span.from in
    let k = c.granules.granule in
    let up : from ≤ k = omega arith in
    let fresh = c.in_ok-read.ensures in
    let so_far = c.granules.invariant in
    let more = c.in_ok-values.ensures in
    record {
      held = λ granularity values held.
          fresh
          ∙ (λ i. record {
            kind = (so_far.held granularity values held i).kind;
            values = (so_far.held granularity values held i).values ++ (more.held granularity values held i).values;
          })
          ∙ part-more granularity from k values up;
      kind = ap (λ (v : KindedValues). v.kind) fresh ∙ so_far.kind;
      len = λ granularity rows e.
          ap (λ (v : KindedValues). length v.values) fresh
          ∙ length-append c.granules.read.values c.in_ok-values.values.values
          ∙ (λ i. so_far.len granularity rows e i + more.len granularity rows e i)
          ∙ span_rows-more granularity from k rows up;
      faults = more.faults.calm (λ e. cc (e)) ∙ so_far.faults;
      reads = omega (arith, more.reads.exact, so_far.reads, up);
    }

pub returns-in_err-values-clause-damaged : goal.returns-in_err-values-clause-damaged
returns-in_err-values-clause-damaged g c =
    λ column granule at is.
    let p = err_from_is_err_and c.from_residual.result c.from_residual.ensures.1 in
    let there : Err c.in_err-values.field-0.0 ≡ Err (faults.Damaged column granule at) = (cc (is, p.1, p.2)) in
    let h = c.in_err-values.ensures.damaged column granule at there in
    let k = c.granules.granule in
    record {
      rose = omega (arith, h.2, c.granules.invariant.reads);
      column_is = h.0;
      from = omega (arith, h.1);
      to = omega (arith, h.1, c.granules-test.true);
      gave = subst (λ k. GaveDamage c.args.file.now k at (g.P.Port.last c.read_granule_at.new.port)) (sym h.1) h.3;
    }

pub returns-in_err-values-clause-undamaged : goal.returns-in_err-values-clause-undamaged
returns-in_err-values-clause-undamaged g c =
    λ granularity values held column granule at is.
    let p = err_from_is_err_and c.from_residual.result c.from_residual.ensures.1 in
    let there : Err c.in_err-values.field-0.0 ≡ Err (faults.Damaged column granule at) = (cc (is, p.1, p.2)) in
    c.in_err-values.ensures.undamaged granularity values held column granule at there
