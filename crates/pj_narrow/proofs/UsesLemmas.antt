-- Whether expressions and conditions use a column: one equation for each variant.
use Rattle.std.proofs.Common.{◌≡◌, ℕ, Bool, false, ◌||◌, List, sym, ap, ◌∙◌}
use Rattle.std.specs.Prelude.{◌==◌}
use Rattle.pj_expr.specs.declared.expr.Expr.{Expr, Expr-F, fold-roll-Expr}
use Rattle.pj_expr.specs.declared.expr.Expr.TheVariants as exprs
use Rattle.pj_expr.specs.declared.cond.Op.{Op}
use Rattle.pj_expr.specs.declared.cond.Cond.{Cond, Cond-F, fold-roll-Cond}
use Rattle.pj_expr.specs.declared.cond.Cond.TheVariants as conds
use Rattle.pj_narrow.specs.Narrowing.{uses_step, expr_uses, cond_uses_step, cond_uses}

module _ (c : ℕ) where
  -- a column
  pub expr_uses-Column : (at : ℕ) → expr_uses c (exprs.Column at) ≡ (at == c)
  expr_uses-Column at =
      ap (expr_uses c) (sym (exprs.rolls-Column at))
      ∙ fold-roll-Expr Bool (uses_step c) (Expr-F.Column at)

  -- a number
  pub expr_uses-Num : (n : ℕ) → expr_uses c (exprs.Num n) ≡ false
  expr_uses-Num n =
      ap (expr_uses c) (sym (exprs.rolls-Num n))
      ∙ fold-roll-Expr Bool (uses_step c) (Expr-F.Num n)

  -- a text
  pub expr_uses-Text : (t : List ℕ) → expr_uses c (exprs.Text t) ≡ false
  expr_uses-Text t =
      ap (expr_uses c) (sym (exprs.rolls-Text t))
      ∙ fold-roll-Expr Bool (uses_step c) (Expr-F.Text t)

  -- a sum
  pub expr_uses-Add : (a b : Expr) → expr_uses c (exprs.Add a b) ≡ (expr_uses c a || expr_uses c b)
  expr_uses-Add a b =
      ap (expr_uses c) (sym (exprs.rolls-Add a b))
      ∙ fold-roll-Expr Bool (uses_step c) (Expr-F.Add a b)

  -- a product
  pub expr_uses-Mul : (a b : Expr) → expr_uses c (exprs.Mul a b) ≡ (expr_uses c a || expr_uses c b)
  expr_uses-Mul a b =
      ap (expr_uses c) (sym (exprs.rolls-Mul a b))
      ∙ fold-roll-Expr Bool (uses_step c) (Expr-F.Mul a b)

  -- a quotient
  pub expr_uses-IntDiv : (a : Expr) (d : ℕ) → expr_uses c (exprs.IntDiv a d) ≡ expr_uses c a
  expr_uses-IntDiv a d =
      ap (expr_uses c) (sym (exprs.rolls-IntDiv a d))
      ∙ fold-roll-Expr Bool (uses_step c) (Expr-F.IntDiv a d)

  -- a remainder
  pub expr_uses-Mod : (a : Expr) (d : ℕ) → expr_uses c (exprs.Mod a d) ≡ expr_uses c a
  expr_uses-Mod a d =
      ap (expr_uses c) (sym (exprs.rolls-Mod a d))
      ∙ fold-roll-Expr Bool (uses_step c) (Expr-F.Mod a d)

  -- each row satisfies it
  pub cond_uses-All : cond_uses c conds.All ≡ false
  cond_uses-All =
      ap (cond_uses c) (sym conds.rolls-All)
      ∙ fold-roll-Cond Bool (cond_uses_step c) Cond-F.All

  -- a comparison
  pub cond_uses-Compare : (op : Op) (a b : Expr)
      → cond_uses c (conds.Compare op a b) ≡ (expr_uses c a || expr_uses c b)
  cond_uses-Compare op a b =
      ap (cond_uses c) (sym (conds.rolls-Compare op a b))
      ∙ fold-roll-Cond Bool (cond_uses_step c) (Cond-F.Compare op a b)

  -- both
  pub cond_uses-And : (a b : Cond) → cond_uses c (conds.And a b) ≡ (cond_uses c a || cond_uses c b)
  cond_uses-And a b =
      ap (cond_uses c) (sym (conds.rolls-And a b))
      ∙ fold-roll-Cond Bool (cond_uses_step c) (Cond-F.And a b)

  -- one of both
  pub cond_uses-Or : (a b : Cond) → cond_uses c (conds.Or a b) ≡ (cond_uses c a || cond_uses c b)
  cond_uses-Or a b =
      ap (cond_uses c) (sym (conds.rolls-Or a b))
      ∙ fold-roll-Cond Bool (cond_uses_step c) (Cond-F.Or a b)

  -- its opposite
  pub cond_uses-Not : (a : Cond) → cond_uses c (conds.Not a) ≡ cond_uses c a
  cond_uses-Not a =
      ap (cond_uses c) (sym (conds.rolls-Not a))
      ∙ fold-roll-Cond Bool (cond_uses_step c) (Cond-F.Not a)
