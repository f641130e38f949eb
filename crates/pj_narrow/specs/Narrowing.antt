-- A query over the columns that it uses alone: which these are, and the query with them numbered anew.
use Rattle.std.specs.Prelude.{ℕ, Bool, false, ◌||◌, ◌==◌, List, map, Option, Some, None}
use Rattle.std.specs.List.{filter, list_any, position_or_len, range_with_len}
use Rattle.pj_expr.specs.declared.expr.Expr.{Expr}
use Rattle.pj_expr.specs.declared.expr.Expr.TheVariants as exprs
use Rattle.pj_expr.specs.declared.expr.Expr.TheOpen.{Expr-F}
use Rattle.pj_expr.specs.declared.expr.Expr.TheFolds.{fold-Expr}
use Rattle.pj_expr.specs.declared.cond.Cond.{Cond}
use Rattle.pj_expr.specs.declared.cond.Cond.TheVariants as conds
use Rattle.pj_expr.specs.declared.cond.Cond.TheOpen.{Cond-F}
use Rattle.pj_expr.specs.declared.cond.Cond.TheFolds.{fold-Cond}
use Rattle.pj_expr.specs.declared.query.AggCall.{AggCall}
use Rattle.pj_expr.specs.declared.query.Item.{Item}
use Rattle.pj_expr.specs.declared.query.Item.TheVariants.{Plain, Agg}
use Rattle.pj_expr.specs.declared.query.OrderKey.{OrderKey}
use Rattle.pj_expr.specs.declared.query.Query.{Query}

-- ---- the columns that a query uses

-- whether an expression uses a column, where it is known of its operands
abbrev pub uses_step : ℕ → Expr-F Bool → Bool
uses_step c (Expr-F.Column at) = at == c
uses_step c (Expr-F.Num n) = false
uses_step c (Expr-F.Text t) = false
uses_step c (Expr-F.Add a b) = a || b
uses_step c (Expr-F.Mul a b) = a || b
uses_step c (Expr-F.IntDiv a d) = a
uses_step c (Expr-F.Mod a d) = a

-- whether an expression uses a column
abbrev pub expr_uses : ℕ → Expr → Bool
expr_uses c e = fold-Expr Bool (uses_step c) e

-- whether a condition uses a column, where it is known of its parts
abbrev pub cond_uses_step : ℕ → Cond-F Bool → Bool
cond_uses_step c Cond-F.All = false
cond_uses_step c (Cond-F.Compare op a b) = expr_uses c a || expr_uses c b
cond_uses_step c (Cond-F.And a b) = a || b
cond_uses_step c (Cond-F.Or a b) = a || b
cond_uses_step c (Cond-F.Not a) = a

-- whether a condition uses a column
abbrev pub cond_uses : ℕ → Cond → Bool
cond_uses c filter = fold-Cond Bool (cond_uses_step c) filter

-- whether the argument of a call uses a column
abbrev pub argument_uses : ℕ → Option Expr → Bool
argument_uses c None = false
argument_uses c (Some e) = expr_uses c e

-- whether an item uses a column
abbrev pub item_uses : ℕ → Item → Bool
item_uses c (Plain e) = expr_uses c e
item_uses c (Agg call) = argument_uses c call.argument

-- whether a query uses a column: in an item, in its filter, in GROUP BY or in ORDER BY
abbrev pub query_uses : ℕ → Query → Bool
query_uses c q =
    list_any (item_uses c) q.items || (cond_uses c q.filter
    || (list_any (expr_uses c) q.groups || list_any (λ key. item_uses c key.item) q.order))

-- the columns that a query uses, of so many, in their order
abbrev pub columns_in : ℕ → Query → List ℕ
columns_in count q = filter (λ c. query_uses c q) (range_with_len 0 count)

-- ---- the query over them

-- the index of a column among these, and how many they are where it isn't one of them
abbrev pub place_among : List ℕ → ℕ → ℕ
place_among columns c = position_or_len (λ at. at == c) columns

-- an expression over these columns alone, where its operands are
abbrev pub narrow_step : List ℕ → Expr-F Expr → Expr
narrow_step columns (Expr-F.Column c) = exprs.Column (place_among columns c)
narrow_step columns (Expr-F.Num n) = exprs.Num n
narrow_step columns (Expr-F.Text t) = exprs.Text t
narrow_step columns (Expr-F.Add a b) = exprs.Add a b
narrow_step columns (Expr-F.Mul a b) = exprs.Mul a b
narrow_step columns (Expr-F.IntDiv a d) = exprs.IntDiv a d
narrow_step columns (Expr-F.Mod a d) = exprs.Mod a d

-- an expression over these columns alone
abbrev pub narrowed_expr : List ℕ → Expr → Expr
narrowed_expr columns e = fold-Expr Expr (narrow_step columns) e

-- a condition over these columns alone, where its parts are
abbrev pub narrow_cond_step : List ℕ → Cond-F Cond → Cond
narrow_cond_step columns Cond-F.All = conds.All
narrow_cond_step columns (Cond-F.Compare op a b) =
    conds.Compare op (narrowed_expr columns a) (narrowed_expr columns b)
narrow_cond_step columns (Cond-F.And a b) = conds.And a b
narrow_cond_step columns (Cond-F.Or a b) = conds.Or a b
narrow_cond_step columns (Cond-F.Not a) = conds.Not a

-- a condition over these columns alone
abbrev pub narrowed_cond : List ℕ → Cond → Cond
narrowed_cond columns c = fold-Cond Cond (narrow_cond_step columns) c

-- the argument of a call over these columns alone
abbrev pub narrowed_argument : List ℕ → Option Expr → Option Expr
narrowed_argument columns None = None
narrowed_argument columns (Some e) = Some (narrowed_expr columns e)

-- a call over these columns alone
abbrev pub narrowed_call : List ℕ → AggCall → AggCall
narrowed_call columns call = record call { argument = narrowed_argument columns call.argument }

-- an item over these columns alone
abbrev pub narrowed_item : List ℕ → Item → Item
narrowed_item columns (Plain e) = Plain (narrowed_expr columns e)
narrowed_item columns (Agg call) = Agg (narrowed_call columns call)

-- a key of ORDER BY over these columns alone
abbrev pub narrowed_key : List ℕ → OrderKey → OrderKey
narrowed_key columns key = record key { item = narrowed_item columns key.item }

-- a query over these columns alone
abbrev pub narrowed : List ℕ → Query → Query
narrowed columns q = record q {
  items = map (narrowed_item columns) q.items;
  filter = narrowed_cond columns q.filter;
  groups = map (narrowed_expr columns) q.groups;
  order = map (narrowed_key columns) q.order;
}
