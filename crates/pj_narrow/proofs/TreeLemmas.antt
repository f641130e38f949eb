-- Induction over expressions and conditions.
use Rattle.std.proofs.Common.{ℕ, List, subst}
use Rattle.pj_expr.specs.declared.expr.Expr.{Expr, Expr-F, map-Expr, roll-Expr, ind-Expr}
use Rattle.pj_expr.specs.declared.expr.Expr.TheVariants as exprs
use Rattle.pj_expr.specs.declared.cond.Op.{Op}
use Rattle.pj_expr.specs.declared.cond.Cond.{Cond, Cond-F, map-Cond, roll-Cond, ind-Cond}
use Rattle.pj_expr.specs.declared.cond.Cond.TheVariants as conds

-- a tree for which a fact is known
abbrev Known : {T : Type 0} → (T → Type 0) → Type 0
Known {T} P = (t : T) × P t

module _ (P : Expr → Type 0)
    (column : (c : ℕ) → P (exprs.Column c))
    (number : (n : ℕ) → P (exprs.Num n))
    (text : (t : List ℕ) → P (exprs.Text t))
    (sum : (a b : Expr) → P a → P b → P (exprs.Add a b))
    (product : (a b : Expr) → P a → P b → P (exprs.Mul a b))
    (quotient : (a : Expr) (d : ℕ) → P a → P (exprs.IntDiv a d))
    (remainder : (a : Expr) (d : ℕ) → P a → P (exprs.Mod a d)) where
  -- a layer whose operands are known
  layer : (y : Expr-F (Known P)) → P (roll-Expr (map-Expr (Known P) Expr (λ k. k.0) y))
  layer (Expr-F.Column c) = rw (exprs.rolls-Column c) (column c)
  layer (Expr-F.Num n) = rw (exprs.rolls-Num n) (number n)
  layer (Expr-F.Text t) = rw (exprs.rolls-Text t) (text t)
  layer (Expr-F.Add a b) = rw (exprs.rolls-Add a.0 b.0) (sum a.0 b.0 a.1 b.1)
  layer (Expr-F.Mul a b) = rw (exprs.rolls-Mul a.0 b.0) (product a.0 b.0 a.1 b.1)
  layer (Expr-F.IntDiv a d) = rw (exprs.rolls-IntDiv a.0 d) (quotient a.0 d a.1)
  layer (Expr-F.Mod a d) = rw (exprs.rolls-Mod a.0 d) (remainder a.0 d a.1)

  -- each expression
  pub each_expr : (e : Expr) → P e
  each_expr = ind-Expr P (λ x y is. subst (λ z. P (roll-Expr z)) is (layer y))

module _ (P : Cond → Type 0)
    (all : P conds.All)
    (compare : (op : Op) (a b : Expr) → P (conds.Compare op a b))
    (both : (a b : Cond) → P a → P b → P (conds.And a b))
    (one : (a b : Cond) → P a → P b → P (conds.Or a b))
    (opposite : (a : Cond) → P a → P (conds.Not a)) where
  -- a layer whose parts are known
  cond_layer : (y : Cond-F (Known P)) → P (roll-Cond (map-Cond (Known P) Cond (λ k. k.0) y))
  cond_layer Cond-F.All = rw conds.rolls-All all
  cond_layer (Cond-F.Compare op a b) = rw (conds.rolls-Compare op a b) (compare op a b)
  cond_layer (Cond-F.And a b) = rw (conds.rolls-And a.0 b.0) (both a.0 b.0 a.1 b.1)
  cond_layer (Cond-F.Or a b) = rw (conds.rolls-Or a.0 b.0) (one a.0 b.0 a.1 b.1)
  cond_layer (Cond-F.Not a) = rw (conds.rolls-Not a.0) (opposite a.0 a.1)

  -- each condition
  pub each_cond : (c : Cond) → P c
  each_cond = ind-Cond P (λ x y is. subst (λ z. P (roll-Cond z)) is (cond_layer y))
