-- What the parts of an expression are that is built of others and of literals.
use Rattle.std.proofs.Common.{◌≡◌, ◌⊎◌, inl, inr, ℕ, List}
use Rattle.std.specs.Prelude.{Contains, IsTrue, Bool, true, false}
use Rattle.pj_expr.specs.declared.expr.Expr.{Expr, Expr-F, out-Expr}
use Rattle.pj_expr.specs.declared.expr.Expr.TheVariants as exprs
use Rattle.pj_expr.specs.Fits.{IsBuiltOf}

-- the parts are built so, and a column isn't
abbrev HasBuiltParts : List Expr → Expr-F Expr → Type 0
HasBuiltParts keys (Expr-F.Column c) = ⊥
HasBuiltParts keys (Expr-F.Num n) = Unit {0}
HasBuiltParts keys (Expr-F.Text t) = Unit {0}
HasBuiltParts keys (Expr-F.Add a b) = IsBuiltOf keys a × IsBuiltOf keys b
HasBuiltParts keys (Expr-F.Mul a b) = IsBuiltOf keys a × IsBuiltOf keys b
HasBuiltParts keys (Expr-F.IntDiv a d) = IsBuiltOf keys a
HasBuiltParts keys (Expr-F.Mod a d) = IsBuiltOf keys a

-- it is one of them, or its parts are built so
parts : (keys : List Expr) (e : Expr) → IsBuiltOf keys e → Contains keys e ⊎ HasBuiltParts keys (out-Expr e)
parts keys e (IsBuiltOf.key c) = inl c
parts keys _ (IsBuiltOf.number {n}) = inr (rw (exprs.outs-Num n) tt)
parts keys _ (IsBuiltOf.text {t}) = inr (rw (exprs.outs-Text t) tt)
parts keys _ (IsBuiltOf.sum {a} {b} x y) = inr (rw (exprs.outs-Add a b) (x, y))
parts keys _ (IsBuiltOf.product {a} {b} x y) = inr (rw (exprs.outs-Mul a b) (x, y))
parts keys _ (IsBuiltOf.quotient {a} {d} x) = inr (rw (exprs.outs-IntDiv a d) x)
parts keys _ (IsBuiltOf.remainder {a} {d} x) = inr (rw (exprs.outs-Mod a d) x)

module _ (keys : List Expr) where
  -- one that is none of them is built of its parts
  pub built-Column : (c : ℕ) → (Contains keys (exprs.Column c) → ⊥) → IsBuiltOf keys (exprs.Column c) → ⊥
  built-Column c n h = elim
      (parts keys (exprs.Column c) h) [ inl m ↦ n m | inr s ↦ rw (exprs.outs-Column c) at s ]

  pub built-Add : (a b : Expr) → (Contains keys (exprs.Add a b) → ⊥) → IsBuiltOf keys (exprs.Add a b)
      → IsBuiltOf keys a × IsBuiltOf keys b
  built-Add a b n h =
      elim (parts keys (exprs.Add a b) h) [ inl m ↦ absurd (n m) | inr s ↦ rw (exprs.outs-Add a b) at s ]

  pub built-Mul : (a b : Expr) → (Contains keys (exprs.Mul a b) → ⊥) → IsBuiltOf keys (exprs.Mul a b)
      → IsBuiltOf keys a × IsBuiltOf keys b
  built-Mul a b n h =
      elim (parts keys (exprs.Mul a b) h) [ inl m ↦ absurd (n m) | inr s ↦ rw (exprs.outs-Mul a b) at s ]

  pub built-IntDiv : (a : Expr) (d : ℕ) → (Contains keys (exprs.IntDiv a d) → ⊥)
      → IsBuiltOf keys (exprs.IntDiv a d)
      → IsBuiltOf keys a
  built-IntDiv a d n h =
      elim (parts keys (exprs.IntDiv a d) h) [
        | inl m ↦ absurd (n m)
        | inr s ↦ rw (exprs.outs-IntDiv a d) at
            s
      ]

  pub built-Mod : (a : Expr) (d : ℕ) → (Contains keys (exprs.Mod a d) → ⊥) → IsBuiltOf keys (exprs.Mod a d)
      → IsBuiltOf keys a
  built-Mod a d n h =
      elim (parts keys (exprs.Mod a d) h) [ inl m ↦ absurd (n m) | inr s ↦ rw (exprs.outs-Mod a d) at s ]

-- a test that failed: it is none of them
pub no_key : (keys : List Expr) (e : Expr) (r : Bool)
    → (IsTrue r → Contains keys e) × (Contains keys e → IsTrue r)
    → r ≡ false → Contains keys e → ⊥
no_key keys e r h f m = let g : r ≡ true = h.1 m in (cc)
