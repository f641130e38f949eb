-- What is read of a part: the rows of a span of granules, in some columns (docs/MODEL.md, "Parts").
use Rattle.std.specs.Prelude.{ℕ, ◌*◌, ◌-◌, min, List, map, slice_range}
use Rattle.pj_value.specs.Columns.{values_at}
use Rattle.pj_value.specs.Rows.{KindedRows}
use Rattle.pj_index.specs.declared.keys.Span.{Span}
use Rattle.pj_part.specs.declared.part.Sorted.{Sorted}
use Rattle.pj_part.specs.declared.part.Part.{Part}
use Rattle.pj_part.specs.Laid.{laid_of}
use Rattle.pj_part.specs.Formed.{kinds_at}

-- the base of a part
abbrev pub base_of : {B : Type 0} → Part B → Sorted B
base_of part = (laid_of part).base

-- the rows in a span of granules
abbrev pub in_span : ℕ → Span → KindedRows → KindedRows
in_span granularity span rows =
    record rows { rows = slice_range rows.rows (span.from * granularity) (span.to * granularity) }

-- how many of so many rows these are
abbrev pub span_rows : ℕ → Span → ℕ → ℕ
span_rows granularity span rows = min (span.to * granularity) rows - span.from * granularity

-- rows with their values in these columns alone
abbrev pub picked : List ℕ → KindedRows → KindedRows
picked columns rows = record {
  kinds = kinds_at rows.kinds columns;
  rows = map (λ row. values_at row columns) rows.rows;
}
