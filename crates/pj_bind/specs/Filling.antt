-- The rows of an INSERT, with a value for each column of the table (docs/GRAMMAR.md, "Binding").
use Rattle.std.specs.Prelude.{◌≡◌, ℕ, List, [], length, map, Option, Some, None}
use Rattle.std.specs.List.{AllByRecursion, position}
use Rattle.std.specs.Str.{bytes_eq}
use Rattle.pj_value.specs.declared.value.Kind.{Kind}
use Rattle.pj_value.specs.declared.value.Value.{Value}
use Rattle.pj_value.specs.Values.{kind_of}
use Rattle.pj_value.specs.Rows.{HaveKinds, value_in}
use Rattle.pj_value.specs.Aggregates.{default}
use Rattle.pj_expr.specs.declared.table.ColumnDef.{ColumnDef}
use Rattle.pj_bind.specs.Names.{Name}

-- the names of columns
abbrev pub column_names : List ColumnDef → List Name
column_names columns = map (λ column. column.name) columns

-- the names that an INSERT lists
abbrev pub listed_names : Option (List Name) → List Name
listed_names None = []
listed_names (Some names) = names

-- the literal at an index of a row, and 0 or the empty text where a column is left out
abbrev pub literal_or_default : Kind → List Value → Option ℕ → Value
literal_or_default kind row None = default kind
literal_or_default kind row (Some at) = value_in row at

-- the value of a row of literals for these names in a column
abbrev pub value_for : List Name → List Value → ColumnDef → Value
value_for names row column =
    literal_or_default column.kind row (position (λ name. bytes_eq name column.name) names)

-- a row of literals for these names, with a value for each column
abbrev pub filled_row : List ColumnDef → List Name → List Value → List Value
filled_row columns names row = map (value_for names row) columns

-- the kinds of columns
abbrev pub column_kinds : List ColumnDef → List Kind
column_kinds columns = map (λ column. column.kind) columns

-- a row has a literal for each of the names, of the kind of its column
pub record FillsRow (columns : List ColumnDef) (names : List Name) (row : List Value) : Type 0 where
  pub as_many : length row ≡ length names
  pub of_kinds : map kind_of (filled_row columns names row) ≡ column_kinds columns

-- each row of an INSERT has a literal for each column that it fills, of the column's kind
abbrev pub FillColumns : List ColumnDef → Option (List Name) → List (List Value) → Type 0
FillColumns columns None rows = HaveKinds (column_kinds columns) rows
FillColumns columns (Some names) rows = AllByRecursion (FillsRow columns names) rows

-- the rows of an INSERT, with a value for each column; without a list they have one
abbrev pub filled_rows : List ColumnDef → Option (List Name) → List (List Value) → List (List Value)
filled_rows columns None rows = rows
filled_rows columns (Some names) rows = map (filled_row columns names) rows
