-- The values of expressions, and whether rows satisfy conditions: one equation for each variant.
use Rattle.std.proofs.Common.{◌≡◌, ℕ, ◌+◌, ◌*◌, ◌/◌, ◌%◌, ◌^◌, Bool, true, not, ◌&&◌, ◌||◌, List, get_or}
use Rattle.std.proofs.Common.{sym, ap, ◌∙◌}
use Rattle.pj_value.specs.declared.value.Value.{Value}
use Rattle.pj_value.specs.declared.value.Value.TheVariants as values
use Rattle.pj_value.specs.Order.{value_cmp}
use Rattle.pj_value.specs.Aggregates.{number_in}
use Rattle.pj_expr.specs.declared.expr.Expr.{Expr, Expr-F, fold-roll-Expr}
use Rattle.pj_expr.specs.declared.expr.Expr.TheVariants as exprs
use Rattle.pj_expr.specs.declared.cond.Op.{Op}
use Rattle.pj_expr.specs.declared.cond.Cond.{Cond, Cond-F, fold-roll-Cond}
use Rattle.pj_expr.specs.declared.cond.Cond.TheVariants as conds
use Rattle.pj_expr.specs.Eval.{eval, eval_step, meets, holds, holds_step}

module _ (row : List Value) where
  -- a column
  pub eval-Column : (c : ℕ) → eval (exprs.Column c) row ≡ get_or row c (values.Num 0)
  eval-Column c =
      ap (λ e. eval e row) (sym (exprs.rolls-Column c))
      ∙ fold-roll-Expr Value (eval_step row) (Expr-F.Column c)

  -- a number
  pub eval-Num : (n : ℕ) → eval (exprs.Num n) row ≡ values.Num n
  eval-Num n = ap (λ e. eval e row) (sym (exprs.rolls-Num n))
      ∙ fold-roll-Expr Value (eval_step row) (Expr-F.Num n)

  -- a text
  pub eval-Text : (t : List ℕ) → eval (exprs.Text t) row ≡ values.Text t
  eval-Text t = ap (λ e. eval e row) (sym (exprs.rolls-Text t))
      ∙ fold-roll-Expr Value (eval_step row) (Expr-F.Text t)

  -- a sum
  pub eval-Add : (a b : Expr)
      → eval (exprs.Add a b) row ≡ values.Num ((number_in (eval a row) + number_in (eval b row)) % 2 ^ 64)
  eval-Add a b =
      ap (λ e. eval e row) (sym (exprs.rolls-Add a b)) ∙ fold-roll-Expr Value (eval_step row) (Expr-F.Add a b)

  -- a product
  pub eval-Mul : (a b : Expr)
      → eval (exprs.Mul a b) row ≡ values.Num ((number_in (eval a row) * number_in (eval b row)) % 2 ^ 64)
  eval-Mul a b =
      ap (λ e. eval e row) (sym (exprs.rolls-Mul a b)) ∙ fold-roll-Expr Value (eval_step row) (Expr-F.Mul a b)

  -- a quotient
  pub eval-IntDiv : (a : Expr) (d : ℕ) → eval (exprs.IntDiv a d) row ≡ values.Num (number_in (eval a row) / d)
  eval-IntDiv a d =
      ap (λ e. eval e row) (sym (exprs.rolls-IntDiv a d))
      ∙ fold-roll-Expr Value (eval_step row) (Expr-F.IntDiv a d)

  -- a remainder
  pub eval-Mod : (a : Expr) (d : ℕ) → eval (exprs.Mod a d) row ≡ values.Num (number_in (eval a row) % d)
  eval-Mod a d =
      ap (λ e. eval e row) (sym (exprs.rolls-Mod a d)) ∙ fold-roll-Expr Value (eval_step row) (Expr-F.Mod a d)

  -- each row satisfies it
  pub holds-All : holds conds.All row ≡ true
  holds-All = ap (λ c. holds c row) (sym conds.rolls-All) ∙ fold-roll-Cond Bool (holds_step row) Cond-F.All

  -- a comparison
  pub holds-Compare : (op : Op) (a b : Expr)
      → holds (conds.Compare op a b) row ≡ meets op (value_cmp (eval a row) (eval b row))
  holds-Compare op a b =
      ap (λ c. holds c row) (sym (conds.rolls-Compare op a b))
      ∙ fold-roll-Cond Bool (holds_step row) (Cond-F.Compare op a b)

  -- both
  pub holds-And : (a b : Cond) → holds (conds.And a b) row ≡ (holds a row && holds b row)
  holds-And a b =
      ap (λ c. holds c row) (sym (conds.rolls-And a b))
      ∙ fold-roll-Cond Bool (holds_step row) (Cond-F.And a b)

  -- one of both
  pub holds-Or : (a b : Cond) → holds (conds.Or a b) row ≡ (holds a row || holds b row)
  holds-Or a b =
      ap (λ c. holds c row) (sym (conds.rolls-Or a b)) ∙ fold-roll-Cond Bool (holds_step row) (Cond-F.Or a b)

  -- its opposite
  pub holds-Not : (a : Cond) → holds (conds.Not a) row ≡ not (holds a row)
  holds-Not a = ap (λ c. holds c row) (sym (conds.rolls-Not a))
      ∙ fold-roll-Cond Bool (holds_step row) (Cond-F.Not a)
