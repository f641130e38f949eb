-- What groups stand for: the rows that were added (docs/MODEL.md, "Groups").
use Rattle.std.specs.Prelude.{◌≡◌, ◌≤◌, Bool, false, true, not, List, [], ◌∷◌, ◌++◌, length, map, filter}
use Rattle.std.specs.Prelude.{Option, Some, None}
use Rattle.std.specs.Option.{IsSomeAnd}
use Rattle.std.specs.Ordering.{is_lt}
use Rattle.std.specs.List.{All, AllZip, IsDistinct, count_by}
use Rattle.std.specs.List.Sorted.{IsPermutation}
use Rattle.pj_value.specs.declared.value.Kind.{Kind}
use Rattle.pj_value.specs.declared.value.Kind.TheVariants as kinds
use Rattle.pj_value.specs.declared.value.Value.{Value}
use Rattle.pj_value.specs.declared.value.Value.TheVariants as values
use Rattle.pj_value.specs.Summaries.{Stands}
use Rattle.pj_agg.specs.StateColumns.{KindedSummaries}
use Rattle.pj_expr.specs.declared.expr.Expr.{Expr}
use Rattle.pj_expr.specs.declared.query.AggCall.{AggCall}
use Rattle.pj_expr.specs.declared.query.Item.{Item}
use Rattle.pj_expr.specs.declared.query.Item.TheVariants.{Plain, Agg}
use Rattle.pj_expr.specs.declared.query.Query.{Query}
use Rattle.pj_expr.specs.Eval.{eval, holds}
use Rattle.pj_expr.specs.Fits.{expr_kind, is_grouped, aggregates_rows}
use Rattle.pj_answer.specs.Answers.{Row, same_row, has_row, key_of, first_row, item_kind, or_number}
use Rattle.pj_answer.specs.Answers.{outcome_of, order_cmp}
use Rattle.pj_group.specs.declared.slots.Slot.{Slot}
use Rattle.pj_group.specs.declared.slots.Slot.TheVariants.{First, States}
use Rattle.pj_group.specs.declared.forms.Form.{Form}
use Rattle.pj_group.specs.declared.forms.Form.TheVariants.{Each, One, By}
use Rattle.pj_group.specs.declared.groups.Groups.{Groups}

-- ---- what is held for an item

-- the values that a call is of: those of its argument, or one for each row
abbrev pub arguments : Option Expr → List Row → List Value
arguments None group = map (λ row. values.Num 0) group
arguments (Some e) group = map (λ row. eval e row) group

-- the kind of the argument of a call
abbrev pub argument_kind : List Kind → Option Expr → Kind
argument_kind columns None = kinds.Num
argument_kind columns (Some e) = or_number (expr_kind columns e)

-- the states of a call for groups
pub record AreStates (columns : List Kind) (groups : List (List Row)) (call : AggCall) (states : KindedSummaries)
    : Type 0 where
  pub agg : states.agg ≡ call.kind
  pub kind : states.kind ≡ argument_kind columns call.argument
  pub stand : AllZip (Stands call.kind) states.summaries (map (arguments call.argument) groups)

-- what is held for an item and groups: its values for their first rows, or the states of its call
abbrev pub IsSlot : List Kind → List (List Row) → Item → Slot → Type 0
IsSlot columns groups (Plain e) (First column) =
    (column.kind ≡ item_kind columns (Plain e))
    × (column.values ≡ map (λ group. eval e (first_row group)) groups)
IsSlot columns groups (Plain e) (States states) = ⊥
IsSlot columns groups (Agg call) (First column) = ⊥
IsSlot columns groups (Agg call) (States states) = AreStates columns groups call states

-- ---- which rows are held

-- whether one row comes before another by ORDER BY
abbrev pub comes_before : List Kind → Query → Row → Row → Bool
comes_before columns q a b =
    is_lt (order_cmp q.order (outcome_of columns q (a ∷ [])).order (outcome_of columns q (b ∷ [])).order)

-- where these rows are held, LIMIT leaves another one out: as many of them as it says don't come after it
abbrev pub IsLeftOut : List Kind → Query → List Row → Row → Type 0
IsLeftOut columns q held row =
    IsSomeAnd q.limit (λ most. most ≤ count_by (λ other. not (comes_before columns q row other)) held)

-- of the rows that are kept, all are held but some that LIMIT leaves out, and these were dropped
pub record KeepsFirstRows (columns : List Kind) (q : Query) (kept held : List Row) : Type 0 where
  pub dropped : List Row
  pub all : IsPermutation kept (held ++ dropped)
  pub out : All (IsLeftOut columns q held) dropped

-- the rows that are held of those that are kept: all where the query aggregates
pub record HoldsRows (columns : List Kind) (q : Query) (kept held : List Row) : Type 0 where
  pub grouped : aggregates_rows q ≡ true → held ≡ kept
  pub separate : aggregates_rows q ≡ false → KeepsFirstRows columns q kept held

-- ---- which groups are held

-- the rows of each key
abbrev pub groups_in : List Expr → List Row → List Row → List (List Row)
groups_in exprs keys rows = map (λ key. filter (λ row. same_row key (key_of exprs row)) rows) keys

-- the keys are those of the rows, once each
pub record AreKeys (exprs : List Expr) (rows keys : List Row) : Type 0 where
  pub once : IsDistinct same_row keys
  pub each : (key : Row) → has_row key keys ≡ has_row key (map (key_of exprs) rows)

-- the groups of the rows that are held: each row by itself, all in one, or those of the keys
abbrev pub HoldsGroups : Query → List Row → Form → List (List Row) → Type 0
HoldsGroups q held Each groups =
    (aggregates_rows q ≡ false) × (groups ≡ map (λ row. row ∷ []) held)
HoldsGroups q held One groups =
    (aggregates_rows q ≡ true) × (is_grouped q.groups ≡ false) × (groups ≡ held ∷ [])
HoldsGroups q held (By keys) groups =
    (aggregates_rows q ≡ true) × (is_grouped q.groups ≡ true) × AreKeys q.groups held keys.keys
    × (groups ≡ groups_in q.groups keys.keys held)

-- the groups of no rows
abbrev pub groups_of_none : Form → List (List Row)
groups_of_none Each = []
groups_of_none One = [] ∷ []
groups_of_none (By keys) = []

-- the items of a query, and then those of its order keys
abbrev pub all_items : Query → List Item
all_items q = q.items ++ map (λ key. key.item) q.order

-- the groups of these rows, those that the query's filter keeps, and what is held for each item
pub record StandsFor (q : Query) (columns : List Kind) (rows : List Row) (held : Groups) : Type 0 where
  pub held_rows : List Row
  pub enough : HoldsRows columns q (filter (holds q.filter) rows) held_rows
  pub groups : List (List Row)
  pub divided : HoldsGroups q held_rows held.form groups
  pub len : held.len ≡ length groups
  pub slots : AllZip (IsSlot columns groups) (all_items q) held.slots.items
