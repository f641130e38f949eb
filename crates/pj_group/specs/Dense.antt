-- Columns of the rows that are kept, and of no others. No public contract cites this file.
use Rattle.std.specs.Prelude.{◌≡◌, ◌<◌, true, List, length}
use Rattle.std.specs.List.{All, range_with_len}
use Rattle.pj_value.specs.declared.value.Value.{Value}
use Rattle.pj_value.specs.Columns.{KindedValues}
use Rattle.pj_answer.specs.Answers.{Row}
use Rattle.pj_group.specs.declared.dense.Dense.{Dense}
use Rattle.pj_group.specs.declared.dense.Kept.{Kept}
use Rattle.pj_group.specs.declared.dense.Dense.TheVariants.{Lent, Own}

-- the column that is lent or computed
abbrev pub dense_column : Dense → KindedValues
dense_column (Lent column) = column.now
dense_column (Own column) = column

-- its values
abbrev pub dense_values : Dense → List Value
dense_values column = (dense_column column).values

-- these are indexes of these rows, and all of them where so it is said
pub record IsKept (rows : List Row) (kept : Kept) : Type 0 where
  pub within : All (λ at. at < length rows) kept.indexes.items
  pub whole : kept.all ≡ true → kept.indexes.items ≡ range_with_len 0 (length rows)
