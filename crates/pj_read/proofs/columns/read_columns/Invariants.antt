use Rattle.std.proofs.Common.{◌≡◌, ◌-◌, ◌*◌, ℕ, length, map, take}
use Rattle.std.specs.List.{All, AllByRecursion, AllZip}
use Rattle.pj_value.specs.Columns.{kinds_of}
use Rattle.pj_value.specs.Rows.{KindedRows, column_of}
use Rattle.pj_port.specs.Counts.{risen}
use Rattle.pj_part.specs.Formed.{kinds_at, IsFormedColumn}
use Rattle.pj_part.specs.Agreement.{columns_of, HoldsColumn}
use Rattle.pj_read.specs.Spans.{in_span, span_rows}
use Rattle.pj_read.proofs.columns.read_columns.Given as goal

abbrev pub invariant-picks : goal.invariant-picks
invariant-picks g l = record {
  held : (granularity : ℕ) (rows : KindedRows)
      → AllZip (HoldsColumn g.P.Blob.Kept.told granularity) l.files (columns_of rows)
      → l.read.items ≡ map (column_of (in_span granularity l.fn.span rows)) (take l.at-index l.columns);
  kinds : kinds_of l.read.items ≡ kinds_at (map (λ file. file.kind) l.files) (take l.at-index l.columns);
  len : (granularity rows : ℕ) → AllByRecursion (IsFormedColumn g.P.Blob.Kept.size granularity rows) l.files
      → All (λ c. length c.values ≡ span_rows granularity l.fn.span rows) l.read.items;
  faults : g.P.Port.faults l.port ≡ g.P.Port.faults l.fn.port;
  reads : g.P.Port.reads l.port ≡ risen (g.P.Port.reads l.fn.port) (l.at-index * (l.fn.span.to - l.fn.span.from));
}
