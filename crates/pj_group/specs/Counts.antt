-- The answer of a query that counts rows and gives nothing else but literals. No public contract cites this
-- file.
use Rattle.std.specs.Prelude.{ℕ, zero, suc, Bool, true, false, ◌&&◌, not, if◌then◌else◌}
use Rattle.std.specs.Prelude.{[], ◌∷◌, map, Option, Some, None, is_none}
use Rattle.std.specs.List.{list_all}
use Rattle.pj_value.specs.declared.value.Value.{Value}
use Rattle.pj_value.specs.declared.value.Value.TheVariants as values
use Rattle.pj_value.specs.Rows.{KindedRows}
use Rattle.pj_expr.specs.declared.query.Item.{Item}
use Rattle.pj_expr.specs.declared.query.Item.TheVariants.{Plain, Agg}
use Rattle.pj_expr.specs.declared.query.Query.{Query}
use Rattle.pj_expr.specs.Eval.{eval}
use Rattle.pj_expr.specs.Fits.{is_grouped}
use Rattle.pj_answer.specs.Answers.{Row, item_kind, first_row}

-- whether an item is no other call than the count of rows
abbrev pub counts_alone : Item → Bool
counts_alone (Plain e) = true
counts_alone (Agg call) = is_none call.argument

-- whether a query has no other call, and no GROUP BY; if it aggregates, what is no call is built of literals
abbrev pub only_counts : Query → Bool
only_counts q = list_all counts_alone q.items && not (is_grouped q.groups)

-- whether LIMIT leaves the first row
abbrev pub leaves_row : Option ℕ → Bool
leaves_row None = true
leaves_row (Some zero) = false
leaves_row (Some (suc n)) = true

-- what an item gives where so many rows are kept, and what is built of literals for some row
abbrev pub value_with : Row → ℕ → Item → Value
value_with row n (Plain e) = eval e row
value_with row n (Agg call) = values.Num n

-- the answer: one row
abbrev pub counts_of : Query → KindedRows → ℕ → KindedRows
counts_of q rows n = record {
  kinds = map (item_kind rows.kinds) q.items;
  rows = if leaves_row q.limit then map (value_with (first_row rows.rows) n) q.items ∷ [] else [];
}
