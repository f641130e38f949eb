-- A column: values of one kind (docs/MODEL.md, "Values").
use Rattle.std.specs.Prelude.{◌≡◌, ℕ, List, [], map, slice_index_or}
use Rattle.std.specs.List.{AllByRecursion, range_with_len}
use Rattle.pj_value.specs.declared.value.Kind.{Kind}
use Rattle.pj_value.specs.declared.value.Kind.TheVariants as kinds
use Rattle.pj_value.specs.declared.value.Value.{Value}
use Rattle.pj_value.specs.declared.value.Value.TheVariants as values
use Rattle.pj_value.specs.Values.{kind_of}

-- values, and the kind that they are of
pub record KindedValues : Type 0 where
  pub kind : Kind
  pub values : List Value

-- no values, of this kind
abbrev pub no_values : Kind → KindedValues
no_values kind = record { kind = kind; values = [] }

-- a column of these numbers
abbrev pub column_of_numbers : List ℕ → KindedValues
column_of_numbers numbers = record { kind = kinds.Num; values = map (λ n. values.Num n) numbers }

-- a column of these texts
abbrev pub column_of_texts : List (List ℕ) → KindedValues
column_of_texts texts = record { kind = kinds.Text; values = map (λ t. values.Text t) texts }

-- each of the values is of the kind
abbrev pub AreOfKind : Kind → List Value → Type 0
AreOfKind kind values = AllByRecursion (λ v. kind_of v ≡ kind) values

-- the values at these indexes, in this order, and the number 0 where there is none
abbrev pub values_at : List Value → List ℕ → List Value
values_at vs indexes = map (λ at. slice_index_or vs at (values.Num 0)) indexes

-- the kind of each column
abbrev pub kinds_of : List KindedValues → List Kind
kinds_of columns = map (λ c. c.kind) columns

-- the values of each column
abbrev pub values_of : List KindedValues → List (List Value)
values_of columns = map (λ c. c.values) columns

-- the row at an index, of the values of each column
abbrev pub row_at : List (List Value) → ℕ → List Value
row_at columns at = map (λ vs. slice_index_or vs at (values.Num 0)) columns

-- the first rows, of the values of each column
abbrev pub rows_of : List (List Value) → ℕ → List (List Value)
rows_of columns len = map (row_at columns) (range_with_len 0 len)
