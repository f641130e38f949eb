-- Which expressions, conditions and queries fit rows of these kinds (docs/MODEL.md, "Expressions").
use Rattle.std.specs.Prelude.{◌≡◌, ℕ, Bool, true, false, ◌&&◌, ◌||◌, List, [], ◌∷◌, Option, Some, None}
use Rattle.std.specs.Prelude.{slice_get, nat_le, Contains, if◌then◌else◌}
use Rattle.std.specs.List.{AllByRecursion, list_any}
use Rattle.pj_value.specs.declared.value.Kind.{Kind}
use Rattle.pj_value.specs.declared.value.Kind.TheVariants as kinds
use Rattle.pj_value.specs.declared.value.AggKind.{AggKind}
use Rattle.pj_value.specs.declared.value.AggKind.TheVariants as aggregates
use Rattle.pj_expr.specs.declared.expr.Expr.{Expr}
use Rattle.pj_expr.specs.declared.expr.Expr.TheVariants as exprs
use Rattle.pj_expr.specs.declared.expr.Expr.TheOpen.{Expr-F}
use Rattle.pj_expr.specs.declared.expr.Expr.TheFolds.{fold-Expr}
use Rattle.pj_expr.specs.declared.cond.Cond.{Cond}
use Rattle.pj_expr.specs.declared.cond.Cond.TheOpen.{Cond-F}
use Rattle.pj_expr.specs.declared.cond.Cond.TheFolds.{fold-Cond}
use Rattle.pj_expr.specs.declared.query.Item.{Item}
use Rattle.pj_expr.specs.declared.query.Item.TheVariants.{Plain, Agg}
use Rattle.pj_expr.specs.declared.query.Query.{Query}

-- two numbers make a number
abbrev pub of_numbers : Option Kind → Option Kind → Option Kind
of_numbers (Some kinds.Num) (Some kinds.Num) = Some kinds.Num
of_numbers (Some kinds.Num) (Some kinds.Text) = None
of_numbers (Some kinds.Num) None = None
of_numbers (Some kinds.Text) b = None
of_numbers None b = None

-- a number with a divisor of at least 1 makes a number
abbrev pub of_division : Option Kind → ℕ → Option Kind
of_division (Some kinds.Num) d = if nat_le 1 d then Some kinds.Num else None
of_division (Some kinds.Text) d = None
of_division None d = None

-- the kind of an expression, where those of its operands are known
abbrev pub kind_step : List Kind → Expr-F (Option Kind) → Option Kind
kind_step columns (Expr-F.Column c) = slice_get columns c
kind_step columns (Expr-F.Num n) = Some kinds.Num
kind_step columns (Expr-F.Text t) = Some kinds.Text
kind_step columns (Expr-F.Add a b) = of_numbers a b
kind_step columns (Expr-F.Mul a b) = of_numbers a b
kind_step columns (Expr-F.IntDiv a d) = of_division a d
kind_step columns (Expr-F.Mod a d) = of_division a d

-- the kind of an expression over columns of these kinds, where it has one
abbrev pub expr_kind : List Kind → Expr → Option Kind
expr_kind columns e = fold-Expr (Option Kind) (kind_step columns) e

-- the expression has a kind: its columns are there, and arithmetic is of numbers
abbrev pub FitsExpr : List Kind → Expr → Type 0
FitsExpr columns e = (kind : Kind) × (expr_kind columns e ≡ Some kind)

-- both have one kind
abbrev pub alike : Option Kind → Option Kind → Bool
alike (Some kinds.Num) (Some kinds.Num) = true
alike (Some kinds.Num) (Some kinds.Text) = false
alike (Some kinds.Num) None = false
alike (Some kinds.Text) (Some kinds.Num) = false
alike (Some kinds.Text) (Some kinds.Text) = true
alike (Some kinds.Text) None = false
alike None b = false

-- whether a condition fits, where it is known of its parts
abbrev pub cond_step : List Kind → Cond-F Bool → Bool
cond_step columns Cond-F.All = true
cond_step columns (Cond-F.Compare op a b) = alike (expr_kind columns a) (expr_kind columns b)
cond_step columns (Cond-F.And a b) = a && b
cond_step columns (Cond-F.Or a b) = a && b
cond_step columns (Cond-F.Not a) = a

-- each comparison of the condition is of two values of one kind
abbrev pub FitsCond : List Kind → Cond → Type 0
FitsCond columns c = fold-Cond Bool (cond_step columns) c ≡ true

-- the count of rows has no argument, and each other call one that fits; a sum is of numbers
abbrev pub FitsCallOf : List Kind → AggKind → Option Expr → Type 0
FitsCallOf columns aggregates.Count argument = argument ≡ None
FitsCallOf columns aggregates.Sum argument =
    (e : Expr) × (argument ≡ Some e) × (expr_kind columns e ≡ Some kinds.Num)
FitsCallOf columns aggregates.Min argument = (e : Expr) × (argument ≡ Some e) × FitsExpr columns e
FitsCallOf columns aggregates.Max argument = (e : Expr) × (argument ≡ Some e) × FitsExpr columns e
FitsCallOf columns aggregates.UniqExact argument = (e : Expr) × (argument ≡ Some e) × FitsExpr columns e

-- an item fits
abbrev pub FitsItem : List Kind → Item → Type 0
FitsItem columns (Plain e) = FitsExpr columns e
FitsItem columns (Agg call) = FitsCallOf columns call.kind call.argument

-- an expression that is built of these and of literals
pub data IsBuiltOf (keys : List Expr) : Expr → Type 0 where
  key : {e : Expr} → Contains keys e → IsBuiltOf keys e
  number : {n : ℕ} → IsBuiltOf keys (exprs.Num n)
  text : {t : List ℕ} → IsBuiltOf keys (exprs.Text t)
  sum : {a b : Expr} → IsBuiltOf keys a → IsBuiltOf keys b → IsBuiltOf keys (exprs.Add a b)
  product : {a b : Expr} → IsBuiltOf keys a → IsBuiltOf keys b → IsBuiltOf keys (exprs.Mul a b)
  quotient : {a : Expr} {d : ℕ} → IsBuiltOf keys a → IsBuiltOf keys (exprs.IntDiv a d)
  remainder : {a : Expr} {d : ℕ} → IsBuiltOf keys a → IsBuiltOf keys (exprs.Mod a d)

-- whether an item is a call
abbrev pub is_call : Item → Bool
is_call (Plain e) = false
is_call (Agg call) = true

-- whether there is a GROUP BY
abbrev pub is_grouped : List Expr → Bool
is_grouped [] = false
is_grouped (e ∷ es) = true

-- whether a query aggregates: it has a call among its items or order keys, or a GROUP BY
abbrev pub aggregates_rows : Query → Bool
aggregates_rows q =
    list_any is_call q.items || (list_any (λ key. is_call key.item) q.order || is_grouped q.groups)

-- an item of a query that aggregates is a call, or built of GROUP BY values and literals
abbrev pub IsOfGroup : List Expr → Item → Type 0
IsOfGroup keys (Plain e) = IsBuiltOf keys e
IsOfGroup keys (Agg call) = Unit {0}

-- the parts of a query fit rows of these kinds, whatever its groups are
pub record KeepsKinds (columns : List Kind) (q : Query) : Type 0 where
  pub filter : FitsCond columns q.filter
  pub items : AllByRecursion (FitsItem columns) q.items
  pub groups : AllByRecursion (FitsExpr columns) q.groups
  pub order : AllByRecursion (λ key. FitsItem columns key.item) q.order

-- where a query aggregates, what it gives besides calls is built of GROUP BY values and literals
pub record KeepsGroups (q : Query) : Type 0 where
  pub items : aggregates_rows q ≡ true → AllByRecursion (IsOfGroup q.groups) q.items
  pub order : aggregates_rows q ≡ true → AllByRecursion (λ key. IsOfGroup q.groups key.item) q.order

-- a query fits rows of these kinds
pub record FitsQuery (columns : List Kind) (q : Query) : Type 0 where
  pub kinds : KeepsKinds columns q
  pub groups : KeepsGroups q
