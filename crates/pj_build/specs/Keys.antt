-- Which rows an index takes its keys of. No public contract cites this file.
use Rattle.std.specs.Prelude.{ℕ, ◌*◌, List, map}
use Rattle.std.specs.List.{range_with_len}
use Rattle.pj_value.specs.Columns.{KindedValues, values_at}
use Rattle.pj_value.specs.Rows.{KindedRows, column_of}
use Rattle.pj_part.specs.Formed.{granule_count}

-- the index of the first row of each granule
abbrev pub granule_starts : ℕ → ℕ → List ℕ
granule_starts granularity rows =
    map (λ at. at * granularity) (range_with_len 0 (granule_count granularity rows))

-- the values of the rows at these indexes in a column
abbrev pub column_at : KindedRows → List ℕ → ℕ → KindedValues
column_at rows indexes column = record {
  kind = (column_of rows column).kind;
  values = values_at (column_of rows column).values indexes;
}
