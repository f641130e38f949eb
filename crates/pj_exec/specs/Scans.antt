-- What a SELECT is asked over, and what it reads: the parts of a table (docs/MODEL.md, "Parts").
use Rattle.std.specs.Prelude.{◌≡◌, ℕ, ◌*◌, None, List, length}
use Rattle.std.specs.List.{flat_map, sum_by}
use Rattle.pj_value.specs.Rows.{KindedRows}
use Rattle.pj_expr.specs.declared.table.Table.{Table}
use Rattle.pj_expr.specs.declared.query.Query.{Query}
use Rattle.pj_expr.specs.Tables.{kinds_of}
use Rattle.pj_expr.specs.Parts.{PartRecord, living}
use Rattle.pj_index.specs.declared.keys.Span.{Span}
use Rattle.pj_part.specs.declared.part.Part.{Part}
use Rattle.pj_part.specs.Formed.{IsFormed}
use Rattle.pj_read.specs.Spans.{base_of}
use Rattle.pj_narrow.specs.Narrowing.{columns_in}

-- a part that is formed for its table, and has no mask
pub record IsUnmasked {B : Type 0} (size : B → ℕ) (table : Table) (part : Part B) : Type 0 where
  pub formed : IsFormed size table part
  pub unmasked : part.mask ≡ None

-- the rows of parts of a table that aren't masked
abbrev pub living_rows : Table → List PartRecord → KindedRows
living_rows table records = record { kinds = kinds_of table; rows = flat_map living records }

-- the columns of a table that a query uses
abbrev pub columns_used : Table → Query → List ℕ
columns_used table q = columns_in (length (kinds_of table)) q

module _ {B : Type 0} where
  -- how many granules a part has
  abbrev pub granules_of : Part B → ℕ
  granules_of part = length (base_of part).index.firsts.rows

  -- all granules of a part
  abbrev pub all_granules : Part B → Span
  all_granules part = record { from = 0; to = granules_of part }

  -- how many granules parts have in these columns
  abbrev pub granules_in : List ℕ → List (Part B) → ℕ
  granules_in columns parts = sum_by (λ part. length columns * granules_of part) parts
