-- How a query that doesn't aggregate is computed by columns and indexes. No public contract cites this file.
use Rattle.std.specs.Prelude.{ℕ, Bool, List, [], ◌∷◌, map, replicate, slice_index_or}
use Rattle.std.specs.declared.cmp.Ordering.{Ordering}
use Rattle.std.specs.declared.cmp.Ordering.TheVariants.{Equal}
use Rattle.std.specs.Ordering.{ordering_then, is_lt}
use Rattle.pj_value.specs.declared.value.Kind.{Kind}
use Rattle.pj_value.specs.declared.value.Value.{Value}
use Rattle.pj_value.specs.declared.value.Value.TheVariants as values
use Rattle.pj_value.specs.Columns.{KindedValues}
use Rattle.pj_value.specs.Values.{value_of}
use Rattle.pj_value.specs.Rows.{KindedRows, rows_at}
use Rattle.pj_value.specs.Order.{value_cmp}
use Rattle.pj_expr.specs.declared.query.Item.{Item}
use Rattle.pj_expr.specs.declared.query.Item.TheVariants.{Plain, Agg}
use Rattle.pj_expr.specs.declared.query.OrderKey.{OrderKey}
use Rattle.pj_expr.specs.Fits.{FitsExpr}
use Rattle.pj_answer.specs.Answers.{Row, item_value, item_kind, turned}
use Rattle.pj_group.specs.declared.keys.Values.{Values}
use Rattle.pj_group.specs.declared.keys.Values.TheVariants.{Lent, Own, Same}
use Rattle.pj_group.specs.declared.keys.Key.{Key}

-- the item fits, and is no call
abbrev pub FitsRow : List Kind → Item → Type 0
FitsRow columns (Plain e) = FitsExpr columns e
FitsRow columns (Agg call) = ⊥

-- ---- items

-- what an item gives for a row by itself
abbrev pub row_value : List Kind → Item → Row → Value
row_value columns item row = item_value columns (row ∷ []) item

-- what an item gives for each row by itself
abbrev pub item_column : KindedRows → Item → KindedValues
item_column rows item =
    record { kind = item_kind rows.kinds item; values = map (row_value rows.kinds item) rows.rows }

-- what the items give for a row by itself
abbrev pub row_output : List Kind → List Item → Row → Row
row_output columns items row = map (λ item. row_value columns item row) items

-- what the items give for each row by itself
abbrev pub outputs_of : KindedRows → List Item → KindedRows
outputs_of rows items =
    record { kinds = map (item_kind rows.kinds) items; rows = map (row_output rows.kinds items) rows.rows }

-- the rows at these indexes
abbrev pub chosen : KindedRows → List ℕ → KindedRows
chosen rows indexes = record { kinds = rows.kinds; rows = rows_at rows.rows indexes }

-- ---- keys

-- a key of ORDER BY with its values for all rows
pub record KeyValues : Type 0 where
  pub descending : Bool
  pub values : List Value

-- a key for rows
abbrev pub key_for : KindedRows → OrderKey → KeyValues
key_for rows key = record { descending = key.descending; values = (item_column rows key.item).values }

-- the values that are lent or computed, or one value for so many rows
abbrev pub values_in : Values → List Value
values_in (Lent column) = column.now.values
values_in (Own column) = column.values
values_in (Same cell len) = replicate len (value_of cell)

-- a key as it is kept
abbrev pub key_values : Key → KeyValues
key_values key = record { descending = key.descending; values = values_in key.values }

-- the values at two indexes
abbrev pub values_cmp : List Value → ℕ → ℕ → Ordering
values_cmp vs a b = value_cmp (slice_index_or vs a (values.Num 0)) (slice_index_or vs b (values.Num 0))

-- the rows at two indexes: the first key in which they differ decides
abbrev pub indexes_cmp : List KeyValues → ℕ → ℕ → Ordering
indexes_cmp [] a b = Equal
indexes_cmp (key ∷ keys) a b =
    ordering_then (turned key.descending (values_cmp key.values a b)) (indexes_cmp keys a b)

-- whether the row at one index comes before that at another
abbrev pub is_before : List KeyValues → ℕ → ℕ → Bool
is_before keys a b = is_lt (indexes_cmp keys a b)
