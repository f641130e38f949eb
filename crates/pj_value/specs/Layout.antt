-- How a `Column` and `Rows` are laid out. No public contract cites this file.
use Rattle.std.specs.Prelude.{◌≡◌, ℕ, Bool, List, [], ◌∷◌, ◌++◌, length, map, take}
use Rattle.std.specs.List.{All, AllZip, range_with_len}
use Rattle.std.specs.Ordering.{is_lt}
use Rattle.std.specs.declared.cmp.Ordering.{Ordering}
use Rattle.pj_value.specs.declared.value.Kind.{Kind}
use Rattle.pj_value.specs.declared.value.Kind.TheVariants as kinds
use Rattle.pj_value.specs.declared.value.Value.{Value}
use Rattle.pj_value.specs.declared.value.Value.TheVariants as values
use Rattle.pj_value.specs.declared.column.Items.{Items}
use Rattle.pj_value.specs.declared.column.Items.TheVariants as items
use Rattle.pj_value.specs.NumberBytes.{AreBytes}
use Rattle.pj_value.specs.Columns.{KindedValues, AreOfKind, values_at, values_of, row_at}
use Rattle.pj_value.specs.Order.{key_cmp}

-- the values of a column, and their kind
abbrev pub kinded_values : Items → KindedValues
kinded_values (items.Num numbers) =
    record { kind = kinds.Num; values = map (λ n. values.Num n) numbers.items }
kinded_values (items.Text texts) =
    record { kind = kinds.Text; values = map (λ t. values.Text t) texts.items }

-- the texts among what a column holds are of bytes
abbrev pub HasBytes : Items → Type 0
HasBytes (items.Num numbers) = Unit {0}
HasBytes (items.Text texts) = All AreBytes texts.items

-- a column of this kind, with as many values as there are rows
pub record IsColumnOf (len : ℕ) (kind : Kind) (column : KindedValues) : Type 0 where
  pub kind_is : column.kind ≡ kind
  pub len_is : length column.values ≡ len
  pub of_kind : AreOfKind kind column.values

-- one column for each kind, in the order of the kinds
abbrev pub AreColumnsOf : ℕ → List Kind → List KindedValues → Type 0
AreColumnsOf len kinds columns = AllZip (IsColumnOf len) kinds columns

-- columns with further values behind those of the first of them
abbrev pub joined : List KindedValues → List (List Value) → List KindedValues
joined [] vss = []
joined (c ∷ cs) [] = c ∷ cs
joined (c ∷ cs) (vs ∷ vss) = record c { values = c.values ++ vs } ∷ joined cs vss

-- a column with its first values alone
abbrev pub truncated : ℕ → KindedValues → KindedValues
truncated len column = record column { values = take len column.values }

-- a column with its values at these indexes
abbrev pub gathered : List ℕ → KindedValues → KindedValues
gathered indexes column = record column { values = values_at column.values indexes }

-- the indexes of so many rows
abbrev pub indexes_of : ℕ → List ℕ
indexes_of len = range_with_len 0 len

-- how the rows at two indexes stand to each other by these columns
abbrev pub indexes_cmp : List KindedValues → List ℕ → ℕ → ℕ → Ordering
indexes_cmp columns keys a b = key_cmp keys (row_at (values_of columns) a) (row_at (values_of columns) b)

-- whether the row at an index stands before that at another
abbrev pub is_before : List KindedValues → List ℕ → ℕ → ℕ → Bool
is_before columns keys a b = is_lt (indexes_cmp columns keys a b)

-- the columns of a row alone
abbrev pub columns_of_row : List Value → List (List Value)
columns_of_row row = map (λ v. v ∷ []) row
