-- Rows with the kinds of their columns (docs/MODEL.md, "Values").
use Rattle.std.specs.Prelude.{◌≡◌, ℕ, List, [], length, map, replicate, slice_index_or}
use Rattle.std.specs.List.{AllByRecursion}
use Rattle.pj_value.specs.declared.value.Kind.{Kind}
use Rattle.pj_value.specs.declared.value.Kind.TheVariants as kinds
use Rattle.pj_value.specs.declared.value.Value.{Value}
use Rattle.pj_value.specs.declared.value.Value.TheVariants as values
use Rattle.pj_value.specs.Values.{kind_of}
use Rattle.pj_value.specs.Columns.{KindedValues, no_values, kinds_of, values_of, rows_of}

-- rows, each a list of values, and the kinds of their columns
pub record KindedRows : Type 0 where
  pub kinds : List Kind
  pub rows : List (List Value)

-- no rows, of these kinds
abbrev pub no_rows : List Kind → KindedRows
no_rows kinds = record { kinds = kinds; rows = [] }

-- so many rows of no columns
abbrev pub rows_of_no_columns : ℕ → KindedRows
rows_of_no_columns len = record { kinds = []; rows = replicate len [] }

-- the value of a row in a column, and the number 0 where there is none
abbrev pub value_at : List (List Value) → ℕ → ℕ → Value
value_at rows row column = slice_index_or (slice_index_or rows row []) column (values.Num 0)

-- the value of one row in a column, and the number 0 where there is none
abbrev pub value_in : List Value → ℕ → Value
value_in row column = slice_index_or row column (values.Num 0)

-- the rows at these indexes, in this order
abbrev pub rows_at : List (List Value) → List ℕ → List (List Value)
rows_at rows indexes = map (λ at. slice_index_or rows at []) indexes

-- a column: its kind, and the values of the rows in it
abbrev pub column_of : KindedRows → ℕ → KindedValues
column_of rows at =
    record { kind = slice_index_or rows.kinds at kinds.Num; values = map (λ row. value_in row at) rows.rows }

-- as many rows as the first column has values
abbrev pub rows_in : List KindedValues → ℕ
rows_in columns = length (slice_index_or columns 0 (no_values kinds.Num)).values

-- the rows that have their values from these columns
abbrev pub rows_joined : List KindedValues → KindedRows
rows_joined columns =
    record { kinds = kinds_of columns; rows = rows_of (values_of columns) (rows_in columns) }

-- each row has one value of each kind, in the order of the kinds
abbrev pub HaveKinds : List Kind → List (List Value) → Type 0
HaveKinds kinds rows = AllByRecursion (λ row. map kind_of row ≡ kinds) rows
