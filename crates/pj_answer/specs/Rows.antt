-- How the rows of a query are kept while they are ordered and cut. No public contract cites this file.
use Rattle.std.specs.Prelude.{◌≡◌, ℕ, ◌+◌, Bool, List, [], ◌∷◌, Option, Some, None, map, take, slice_index_or}
use Rattle.std.specs.declared.cmp.Ordering.{Ordering}
use Rattle.std.specs.declared.cmp.Ordering.TheVariants.{Equal}
use Rattle.std.specs.List.{filter}
use Rattle.std.specs.Ordering.{ordering_then, is_lt}
use Rattle.pj_value.specs.declared.value.Kind.{Kind}
use Rattle.pj_value.specs.declared.value.Value.{Value}
use Rattle.pj_value.specs.Values.{kind_of}
use Rattle.pj_value.specs.Rows.{KindedRows, value_in}
use Rattle.pj_value.specs.Order.{value_cmp}
use Rattle.pj_expr.specs.declared.query.Item.{Item}
use Rattle.pj_expr.specs.declared.query.OrderKey.{OrderKey}
use Rattle.pj_expr.specs.declared.query.Query.{Query}
use Rattle.pj_expr.specs.Eval.{holds}
use Rattle.pj_answer.specs.Answers.{item_value, item_kind, groups_of, turned}

-- rows of these kinds
abbrev pub of_kinds : List Kind → List (List Value) → KindedRows
of_kinds kinds rows = record { kinds = kinds; rows = rows }

-- what the items give for a group
abbrev pub item_row : List Item → KindedRows → List Value
item_row items group = map (item_value group.kinds group.rows) items

-- the values that the items give for a group are of the items' kinds
abbrev pub HasShape : List Kind → List Item → KindedRows → Type 0
HasShape kinds items group = map kind_of (item_row items group) ≡ map (item_kind kinds) items

-- a row for each group: what the items give for it
abbrev pub item_rows : List Kind → List Item → List KindedRows → KindedRows
item_rows kinds items groups = of_kinds (map (item_kind kinds) items) (map (item_row items) groups)

-- the groups of the rows that a query keeps
abbrev pub kept_groups : Query → KindedRows → List KindedRows
kept_groups q rows = map (of_kinds rows.kinds) (groups_of q (filter (holds q.filter) rows.rows))

-- two rows are compared in the columns from this one on
abbrev pub keys_cmp : List OrderKey → ℕ → List Value → List Value → Ordering
keys_cmp [] at a b = Equal
keys_cmp (key ∷ keys) at a b =
    ordering_then (turned key.descending (value_cmp (value_in a at) (value_in b at)))
    (keys_cmp keys (at + 1) a b)

-- the rows at two indexes
abbrev pub indexes_cmp : List OrderKey → List (List Value) → ℕ → ℕ → Ordering
indexes_cmp keys rows a b = keys_cmp keys 0 (slice_index_or rows a []) (slice_index_or rows b [])

-- whether the row at one index comes before that at another
abbrev pub is_before : List OrderKey → List (List Value) → ℕ → ℕ → Bool
is_before keys rows a b = is_lt (indexes_cmp keys rows a b)

-- the first of a list, as many as LIMIT says
abbrev pub first_of : {X : Type 0} → Option ℕ → List X → List X
first_of None xs = xs
first_of (Some n) xs = take n xs
