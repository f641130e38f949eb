-- The lines of an answer: what items give for groups, in the order of keys. No public contract cites this file.
use Rattle.std.specs.Prelude.{◌≡◌, ℕ, Bool, List, [], ◌∷◌, Option, length, map}
use Rattle.std.specs.List.{range_with_len}
use Rattle.pj_value.specs.declared.value.Kind.{Kind}
use Rattle.pj_value.specs.Columns.{KindedValues, kinds_of, values_of, rows_of}
use Rattle.pj_value.specs.Rows.{KindedRows, rows_at}
use Rattle.pj_expr.specs.declared.query.Item.{Item}
use Rattle.pj_expr.specs.declared.query.OrderKey.{OrderKey}
use Rattle.pj_answer.specs.Answers.{Row, item_value, item_kind}
use Rattle.pj_group.specs.Indexes.{KeyValues}
use Rattle.pj_group.specs.Least.{AreFirst}

-- what the items give for a group
abbrev pub line_of : List Kind → List Item → List Row → Row
line_of columns items group = map (item_value columns group) items

-- a line for each group
abbrev pub lines_of : List Kind → List Item → List (List Row) → KindedRows
lines_of columns items groups =
    record { kinds = map (item_kind columns) items; rows = map (line_of columns items) groups }

-- what an item gives for each group
abbrev pub column_over : List Kind → List (List Row) → Item → KindedValues
column_over columns groups item =
    record { kind = item_kind columns item; values = map (λ group. item_value columns group item) groups }

-- a key of ORDER BY with its values for the groups
abbrev pub key_over : List Kind → List (List Row) → OrderKey → KeyValues
key_over columns groups key = record {
  descending = key.descending;
  values = map (λ group. item_value columns group key.item) groups;
}

-- so many rows, of the values of these columns
abbrev pub rows_in_columns : List KindedValues → ℕ → KindedRows
rows_in_columns columns len =
    record { kinds = kinds_of columns; rows = rows_of (values_of columns) len }

-- keys of ORDER BY with the values of these columns
abbrev pub keys_in_columns : List OrderKey → List KindedValues → List KeyValues
keys_in_columns [] columns = []
keys_in_columns (key ∷ keys) [] = []
keys_in_columns (key ∷ keys) (column ∷ columns) =
    record { descending = key.descending; values = column.values } ∷ keys_in_columns keys columns

-- the first lines in an order, as many as LIMIT says
pub record AreFirstLines (before : ℕ → ℕ → Bool) (limit : Option ℕ) (lines out : KindedRows) : Type 0 where
  pub indexes : List ℕ
  pub first : AreFirst before limit (range_with_len 0 (length lines.rows)) indexes
  pub output : out ≡ record { kinds = lines.kinds; rows = rows_at lines.rows indexes }
