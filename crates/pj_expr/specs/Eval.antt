-- What expressions and conditions are for a row (docs/MODEL.md, "Expressions").
use Rattle.std.specs.Prelude.{◌+◌, ◌*◌, ◌/◌, ◌%◌, ◌^◌, Bool, true, ◌&&◌, ◌||◌, not, List, slice_index_or}
use Rattle.std.specs.declared.cmp.Ordering.{Ordering}
use Rattle.std.specs.Ordering.{is_lt, is_eq, is_gt}
use Rattle.pj_value.specs.declared.value.Value.{Value}
use Rattle.pj_value.specs.declared.value.Value.TheVariants as values
use Rattle.pj_value.specs.Order.{value_cmp}
use Rattle.pj_value.specs.Aggregates.{number_in}
use Rattle.pj_expr.specs.declared.expr.Expr.{Expr}
use Rattle.pj_expr.specs.declared.expr.Expr.TheOpen.{Expr-F}
use Rattle.pj_expr.specs.declared.expr.Expr.TheFolds.{fold-Expr}
use Rattle.pj_expr.specs.declared.cond.Op.{Op}
use Rattle.pj_expr.specs.declared.cond.Op.TheVariants as ops
use Rattle.pj_expr.specs.declared.cond.Cond.{Cond}
use Rattle.pj_expr.specs.declared.cond.Cond.TheOpen.{Cond-F}
use Rattle.pj_expr.specs.declared.cond.Cond.TheFolds.{fold-Cond}

-- an expression whose operands are known; arithmetic is modulo 2 ^ 64
abbrev pub eval_step : List Value → Expr-F Value → Value
eval_step row (Expr-F.Column c) = slice_index_or row c (values.Num 0)
eval_step row (Expr-F.Num n) = values.Num n
eval_step row (Expr-F.Text t) = values.Text t
eval_step row (Expr-F.Add a b) = values.Num ((number_in a + number_in b) % 2 ^ 64)
eval_step row (Expr-F.Mul a b) = values.Num ((number_in a * number_in b) % 2 ^ 64)
eval_step row (Expr-F.IntDiv a d) = values.Num (number_in a / d)
eval_step row (Expr-F.Mod a d) = values.Num (number_in a % d)

-- the value of an expression for a row
abbrev pub eval : Expr → List Value → Value
eval e row = fold-Expr Value (eval_step row) e

-- whether an order is the one that a comparison asks for
abbrev pub meets : Op → Ordering → Bool
meets ops.Eq order = is_eq order
meets ops.Ne order = not (is_eq order)
meets ops.Lt order = is_lt order
meets ops.Le order = not (is_gt order)
meets ops.Gt order = is_gt order
meets ops.Ge order = not (is_lt order)

-- a condition whose parts are known
abbrev pub holds_step : List Value → Cond-F Bool → Bool
holds_step row Cond-F.All = true
holds_step row (Cond-F.Compare op a b) = meets op (value_cmp (eval a row) (eval b row))
holds_step row (Cond-F.And a b) = a && b
holds_step row (Cond-F.Or a b) = a || b
holds_step row (Cond-F.Not a) = not a

-- whether a row satisfies a condition
abbrev pub holds : Cond → List Value → Bool
holds c row = fold-Cond Bool (holds_step row) c
