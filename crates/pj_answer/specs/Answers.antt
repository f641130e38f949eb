-- Right answers of a query over rows (docs/MODEL.md, "Right answers").
use Rattle.std.specs.Prelude.{◌≡◌, ℕ, ◌%◌, ◌^◌, Bool, true, false, ◌||◌, List, [], ◌∷◌, length, map}
use Rattle.std.specs.Prelude.{filter, take, Option, Some, None, if◌then◌else◌}
use Rattle.std.specs.declared.cmp.Ordering.{Ordering}
use Rattle.std.specs.declared.cmp.Ordering.TheVariants.{Equal}
use Rattle.std.specs.Ordering.{ordering_then, ordering_reverse, is_lt, is_eq}
use Rattle.std.specs.List.Sorted.{IsPermutation}
use Rattle.std.specs.Cmp.Lexicographic.{slice_cmp}
use Rattle.pj_value.specs.declared.value.Kind.{Kind}
use Rattle.pj_value.specs.declared.value.Kind.TheVariants as kinds
use Rattle.pj_value.specs.declared.value.Value.{Value}
use Rattle.pj_value.specs.declared.value.Value.TheVariants as values
use Rattle.pj_value.specs.declared.value.AggKind.{AggKind}
use Rattle.pj_value.specs.Rows.{KindedRows}
use Rattle.pj_value.specs.Order.{value_cmp}
use Rattle.pj_value.specs.Aggregates.{aggregate, aggregate_kind}
use Rattle.pj_expr.specs.declared.expr.Expr.{Expr}
use Rattle.pj_expr.specs.declared.query.Item.{Item}
use Rattle.pj_expr.specs.declared.query.Item.TheVariants.{Plain, Agg}
use Rattle.pj_expr.specs.declared.query.OrderKey.{OrderKey}
use Rattle.pj_expr.specs.declared.query.Query.{Query}
use Rattle.pj_expr.specs.Eval.{eval, holds}
use Rattle.pj_expr.specs.Fits.{expr_kind, is_grouped, aggregates_rows}

-- a row
abbrev pub Row : Type 0
Row = List Value

-- ---- groups

-- the two rows have the same values
abbrev pub same_row : Row → Row → Bool
same_row a b = is_eq (slice_cmp value_cmp a b)

-- the row is in the list
abbrev pub has_row : Row → List Row → Bool
has_row row [] = false
has_row row (r ∷ rows) = same_row row r || has_row row rows

-- each row once
abbrev pub distinct_rows : List Row → List Row
distinct_rows [] = []
distinct_rows (r ∷ rows) = if has_row r rows then distinct_rows rows else r ∷ distinct_rows rows

-- the values of GROUP BY for a row
abbrev pub key_of : List Expr → Row → Row
key_of keys row = map (λ e. eval e row) keys

-- one group for each list of GROUP BY values
abbrev pub groups_by : List Expr → List Row → List (List Row)
groups_by keys rows =
    map (λ key. filter (λ row. same_row key (key_of keys row)) rows) (distinct_rows (map (key_of keys) rows))

-- the groups of the rows that are kept: each row by itself, or all in one, or by GROUP BY
abbrev pub groups_of : Query → List Row → List (List Row)
groups_of q rows =
    if aggregates_rows q then (if is_grouped q.groups then groups_by q.groups rows else rows ∷ [])
    else map (λ row. row ∷ []) rows

-- ---- outcomes

-- the first row of a group, and one without values where there is none
abbrev pub first_row : List Row → Row
first_row [] = []
first_row (row ∷ rows) = row

-- the kind, and that of numbers where there is none
abbrev pub or_number : Option Kind → Kind
or_number None = kinds.Num
or_number (Some kind) = kind

-- a call over a group: of its rows, or of the argument's values
abbrev pub call_value : List Kind → AggKind → Option Expr → List Row → Value
call_value columns kind None group = values.Num (length group % 2 ^ 64)
call_value columns kind (Some e) group =
    aggregate kind (or_number (expr_kind columns e)) (map (λ row. eval e row) group)

-- what an item gives for a group
abbrev pub item_value : List Kind → List Row → Item → Value
item_value columns group (Plain e) = eval e (first_row group)
item_value columns group (Agg call) = call_value columns call.kind call.argument group

-- the kind of a call
abbrev pub call_kind : List Kind → AggKind → Option Expr → Kind
call_kind columns kind None = kinds.Num
call_kind columns kind (Some e) = aggregate_kind kind (or_number (expr_kind columns e))

-- the kind of an item
abbrev pub item_kind : List Kind → Item → Kind
item_kind columns (Plain e) = or_number (expr_kind columns e)
item_kind columns (Agg call) = call_kind columns call.kind call.argument

-- what a query gives for a group: a row of its answer, and one to order it by
pub record Outcome : Type 0 where
  pub output : Row
  pub order : Row

-- the outcome of a group
abbrev pub outcome_of : List Kind → Query → List Row → Outcome
outcome_of columns q group = record {
  output = map (item_value columns group) q.items;
  order = map (λ key. item_value columns group key.item) q.order;
}

-- the outcomes of a query over rows, before they are ordered and cut
abbrev pub outcomes_of : Query → KindedRows → List Outcome
outcomes_of q rows = map (outcome_of rows.kinds q) (groups_of q (filter (holds q.filter) rows.rows))

-- ---- order

-- an order, turned round for DESC
abbrev pub turned : Bool → Ordering → Ordering
turned false order = order
turned true order = ordering_reverse order

-- two order rows are compared item by item
abbrev pub order_cmp : List OrderKey → Row → Row → Ordering
order_cmp [] a b = Equal
order_cmp (key ∷ keys) [] b = Equal
order_cmp (key ∷ keys) (x ∷ a) [] = Equal
order_cmp (key ∷ keys) (x ∷ a) (y ∷ b) =
    ordering_then (turned key.descending (value_cmp x y)) (order_cmp keys a b)

-- the order rows never step back
abbrev pub NeverStepBack : List OrderKey → List Outcome → Type 0
NeverStepBack keys [] = Unit {0}
NeverStepBack keys (outcome ∷ []) = Unit {0}
NeverStepBack keys (outcome ∷ next ∷ outcomes) =
    (is_lt (order_cmp keys next.order outcome.order) ≡ false) × NeverStepBack keys (next ∷ outcomes)

-- the first outcomes, as many as LIMIT says
abbrev pub cut : Option ℕ → List Outcome → List Outcome
cut None outcomes = outcomes
cut (Some n) outcomes = take n outcomes

-- an answer of a query over rows: its outcomes in an arrangement that never steps back, cut by LIMIT
pub record Answers (q : Query) (rows out : KindedRows) : Type 0 where
  pub arrangement : List Outcome
  pub all : IsPermutation (outcomes_of q rows) arrangement
  pub ordered : NeverStepBack q.order arrangement
  pub output : out.rows ≡ map (λ outcome. outcome.output) (cut q.limit arrangement)
  pub kinds : out.kinds ≡ map (item_kind rows.kinds) q.items
