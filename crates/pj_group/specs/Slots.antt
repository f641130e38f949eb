-- How what is held for an item grows with rows. No public contract cites this file.
use Rattle.std.specs.Prelude.{◌≡◌, ℕ, ◌<◌, ◌≤◌, true, List, [], ◌++◌, length, map}
use Rattle.std.specs.Prelude.{slice_index_or}
use Rattle.std.specs.List.{All}
use Rattle.pj_value.specs.declared.value.Kind.{Kind}
use Rattle.pj_value.specs.Columns.{KindedValues, values_at}
use Rattle.pj_agg.specs.Groups.{added, grown}
use Rattle.pj_expr.specs.declared.expr.Expr.{Expr}
use Rattle.pj_expr.specs.declared.query.Item.{Item}
use Rattle.pj_expr.specs.declared.query.Item.TheVariants.{Plain, Agg}
use Rattle.pj_expr.specs.declared.query.Query.{Query}
use Rattle.pj_expr.specs.Eval.{eval}
use Rattle.pj_expr.specs.Fits.{is_call, IsBuiltOf, IsOfGroup, aggregates_rows}
use Rattle.pj_answer.specs.Answers.{Row, first_row, item_kind}
use Rattle.pj_group.specs.declared.slots.Slot.{Slot}
use Rattle.pj_group.specs.declared.slots.Slot.TheVariants.{First, States}
use Rattle.pj_group.specs.declared.numbers.Numbers.{Numbers}
use Rattle.pj_group.specs.Standing.{argument_kind}

-- what is held for an item has its form, for so many groups
abbrev pub IsOfItem : List Kind → ℕ → Item → Slot → Type 0
IsOfItem columns n (Plain e) (First column) =
    (column.kind ≡ item_kind columns (Plain e)) × (length column.values ≡ n)
IsOfItem columns n (Plain e) (States states) = ⊥
IsOfItem columns n (Agg call) (First column) = ⊥
IsOfItem columns n (Agg call) (States states) =
    (states.agg ≡ call.kind) × (states.kind ≡ argument_kind columns call.argument)
    × (length states.summaries ≡ n)

-- an item of the query: a call makes it aggregate, and what is no call is built of GROUP BY values then
pub record IsItemOf (q : Query) (item : Item) : Type 0 where
  pub calls : is_call item ≡ true → aggregates_rows q ≡ true
  pub built : aggregates_rows q ≡ true → IsOfGroup q.groups item

-- the numbers serve for so many groups and rows
pub record AreWithin (groups rows : ℕ) (item : Item) (numbers : Numbers) : Type 0 where
  pub each : is_call item ≡ true → length numbers.groups.items ≡ rows
  pub within : All (λ n. n < groups) numbers.groups.items
  pub opened : All (λ at. at < rows) numbers.openings.items

-- groups grow by rows of these numbers
pub record Grow (q : Query) (numbers : Numbers) (rows : List Row) (old new : List (List Row)) : Type 0 where
  -- where the query aggregates, each row goes behind those of its group
  pub each : aggregates_rows q ≡ true
      → new ≡ added (grown old (length new)) numbers.groups.items rows
  -- what the query gives besides calls is that of the old groups, and of the rows that open new ones
  pub first : (e : Expr) → (aggregates_rows q ≡ true → IsBuiltOf q.groups e)
      → map (λ group. eval e (first_row group)) new
      ≡ map (λ group. eval e (first_row group)) old
      ++ map (λ at. eval e (slice_index_or rows at [])) numbers.openings.items
  pub longer : length old ≤ length new

-- what is held of a column: its values for the groups at these indexes
abbrev pub column_at : List ℕ → KindedValues → Slot
column_at indexes column = First (record { kind = column.kind; values = values_at column.values indexes })
