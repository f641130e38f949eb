use Rattle.std.proofs.Common.{◌≡◌, ◌-◌, ℕ, length, map}
use Rattle.pj_value.specs.Columns.{KindedValues}
use Rattle.pj_port.specs.Counts.{risen}
use Rattle.pj_part.specs.Formed.{granule_rows}
use Rattle.pj_part.specs.Agreement.{HoldsColumn}
use Rattle.pj_read.specs.Spans.{span_rows}
use Rattle.pj_read.specs.Layout.{part_in_span}
use Rattle.pj_read.proofs.columns.read_column.Given as goal

abbrev pub invariant-granules : goal.invariant-granules
invariant-granules g l = record {
  held : (granularity : ℕ) (values : KindedValues) → HoldsColumn g.P.Blob.Kept.told granularity l.file values
      → l.read ≡ part_in_span granularity l.fn.span.from l.granule values;
  kind : l.read.kind ≡ l.file.kind;
  len : (granularity rows : ℕ) → map (λ m. m.rows) l.file.marks ≡ granule_rows granularity rows
      → length l.read.values ≡ span_rows granularity (record { from = l.fn.span.from; to = l.granule }) rows;
  faults : g.P.Port.faults l.port ≡ g.P.Port.faults l.fn.port;
  reads : g.P.Port.reads l.port ≡ risen (g.P.Port.reads l.fn.port) (l.granule - l.fn.span.from);
}
