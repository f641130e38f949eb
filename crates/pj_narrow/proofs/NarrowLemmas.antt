-- Expressions and conditions over some columns alone: one equation for each variant.
use Rattle.std.proofs.Common.{◌≡◌, ℕ, List, sym, ap, ◌∙◌}
use Rattle.pj_expr.specs.declared.expr.Expr.{Expr, Expr-F, fold-roll-Expr}
use Rattle.pj_expr.specs.declared.expr.Expr.TheVariants as exprs
use Rattle.pj_expr.specs.declared.cond.Op.{Op}
use Rattle.pj_expr.specs.declared.cond.Cond.{Cond, Cond-F, fold-roll-Cond}
use Rattle.pj_expr.specs.declared.cond.Cond.TheVariants as conds
use Rattle.pj_narrow.specs.Narrowing.{place_among, narrow_step, narrowed_expr, narrow_cond_step}
use Rattle.pj_narrow.specs.Narrowing.{narrowed_cond}

module _ (columns : List ℕ) where
  -- a column
  pub narrowed_expr-Column : (at : ℕ)
      → narrowed_expr columns (exprs.Column at) ≡ exprs.Column (place_among columns at)
  narrowed_expr-Column at =
      ap (narrowed_expr columns) (sym (exprs.rolls-Column at))
      ∙ fold-roll-Expr Expr (narrow_step columns) (Expr-F.Column at)

  -- a number
  pub narrowed_expr-Num : (n : ℕ) → narrowed_expr columns (exprs.Num n) ≡ exprs.Num n
  narrowed_expr-Num n =
      ap (narrowed_expr columns) (sym (exprs.rolls-Num n))
      ∙ fold-roll-Expr Expr (narrow_step columns) (Expr-F.Num n)

  -- a text
  pub narrowed_expr-Text : (t : List ℕ) → narrowed_expr columns (exprs.Text t) ≡ exprs.Text t
  narrowed_expr-Text t =
      ap (narrowed_expr columns) (sym (exprs.rolls-Text t))
      ∙ fold-roll-Expr Expr (narrow_step columns) (Expr-F.Text t)

  -- a sum
  pub narrowed_expr-Add : (a b : Expr)
      → narrowed_expr columns (exprs.Add a b) ≡ exprs.Add (narrowed_expr columns a) (narrowed_expr columns b)
  narrowed_expr-Add a b =
      ap (narrowed_expr columns) (sym (exprs.rolls-Add a b))
      ∙ fold-roll-Expr Expr (narrow_step columns) (Expr-F.Add a b)

  -- a product
  pub narrowed_expr-Mul : (a b : Expr)
      → narrowed_expr columns (exprs.Mul a b) ≡ exprs.Mul (narrowed_expr columns a) (narrowed_expr columns b)
  narrowed_expr-Mul a b =
      ap (narrowed_expr columns) (sym (exprs.rolls-Mul a b))
      ∙ fold-roll-Expr Expr (narrow_step columns) (Expr-F.Mul a b)

  -- a quotient
  pub narrowed_expr-IntDiv : (a : Expr) (d : ℕ)
      → narrowed_expr columns (exprs.IntDiv a d) ≡ exprs.IntDiv (narrowed_expr columns a) d
  narrowed_expr-IntDiv a d =
      ap (narrowed_expr columns) (sym (exprs.rolls-IntDiv a d))
      ∙ fold-roll-Expr Expr (narrow_step columns) (Expr-F.IntDiv a d)

  -- a remainder
  pub narrowed_expr-Mod : (a : Expr) (d : ℕ)
      → narrowed_expr columns (exprs.Mod a d) ≡ exprs.Mod (narrowed_expr columns a) d
  narrowed_expr-Mod a d =
      ap (narrowed_expr columns) (sym (exprs.rolls-Mod a d))
      ∙ fold-roll-Expr Expr (narrow_step columns) (Expr-F.Mod a d)

  -- each row satisfies it
  pub narrowed_cond-All : narrowed_cond columns conds.All ≡ conds.All
  narrowed_cond-All =
      ap (narrowed_cond columns) (sym conds.rolls-All)
      ∙ fold-roll-Cond Cond (narrow_cond_step columns) Cond-F.All

  -- a comparison
  pub narrowed_cond-Compare : (op : Op) (a b : Expr)
      → narrowed_cond columns (conds.Compare op a b)
      ≡ conds.Compare op (narrowed_expr columns a) (narrowed_expr columns b)
  narrowed_cond-Compare op a b =
      ap (narrowed_cond columns) (sym (conds.rolls-Compare op a b))
      ∙ fold-roll-Cond Cond (narrow_cond_step columns) (Cond-F.Compare op a b)

  -- both
  pub narrowed_cond-And : (a b : Cond)
      → narrowed_cond columns (conds.And a b) ≡ conds.And (narrowed_cond columns a) (narrowed_cond columns b)
  narrowed_cond-And a b =
      ap (narrowed_cond columns) (sym (conds.rolls-And a b))
      ∙ fold-roll-Cond Cond (narrow_cond_step columns) (Cond-F.And a b)

  -- one of both
  pub narrowed_cond-Or : (a b : Cond)
      → narrowed_cond columns (conds.Or a b) ≡ conds.Or (narrowed_cond columns a) (narrowed_cond columns b)
  narrowed_cond-Or a b =
      ap (narrowed_cond columns) (sym (conds.rolls-Or a b))
      ∙ fold-roll-Cond Cond (narrow_cond_step columns) (Cond-F.Or a b)

  -- its opposite
  pub narrowed_cond-Not : (a : Cond)
      → narrowed_cond columns (conds.Not a) ≡ conds.Not (narrowed_cond columns a)
  narrowed_cond-Not a =
      ap (narrowed_cond columns) (sym (conds.rolls-Not a))
      ∙ fold-roll-Cond Cond (narrow_cond_step columns) (Cond-F.Not a)
