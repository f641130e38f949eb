-- The value of an expression is of the expression's kind.
use Rattle.std.proofs.Common.{arith, ◌≡◌, ℕ, zero, suc, Bool, true, false, List, [], ◌∷◌, map, get_or}
use Rattle.std.proofs.Common.{Option, Some, None, sym, ◌∙◌}
use Rattle.std.specs.Prelude.{slice_get, if◌then◌else◌}
use Rattle.std.proofs.Math.Dec.{leb}
use Rattle.pj_value.specs.declared.value.Kind.{Kind}
use Rattle.pj_value.specs.declared.value.Kind.TheVariants as kinds
use Rattle.pj_value.specs.declared.value.Value.{Value}
use Rattle.pj_value.specs.declared.value.Value.TheVariants as values
use Rattle.pj_value.specs.Values.{kind_of}
use Rattle.pj_expr.specs.declared.expr.Expr.{Expr, Expr-F, out-Expr, roll-Expr, roll-out-Expr}
use Rattle.pj_expr.specs.declared.expr.Expr.TheVariants as exprs
use Rattle.pj_expr.specs.Eval.{eval}
use Rattle.pj_expr.specs.Fits.{of_numbers, of_division, expr_kind, IsBuiltOf}
use Rattle.pj_expr.proofs.EvalLemmas.{eval-Column, eval-Num, eval-Text, eval-Add, eval-Mul, eval-IntDiv}
use Rattle.pj_expr.proofs.EvalLemmas.{eval-Mod}
use Rattle.pj_expr.proofs.FitsLemmas.{expr_kind-Column, expr_kind-Num, expr_kind-Text}
use Rattle.pj_expr.proofs.FitsLemmas.{expr_kind-Add, expr_kind-Mul, expr_kind-IntDiv, expr_kind-Mod}

-- a sum or a product is a number
of_numbers-Num : (a b : Option Kind) (k : Kind) → of_numbers a b ≡ Some k → k ≡ kinds.Num
of_numbers-Num (Some kinds.Num) (Some kinds.Num) k e = (cc)
of_numbers-Num (Some kinds.Num) (Some kinds.Text) k e = (cc)
of_numbers-Num (Some kinds.Num) None k e = (cc)
of_numbers-Num (Some kinds.Text) b k e = (cc)
of_numbers-Num None b k e = (cc)

-- a quotient or a remainder is a number
of_division-Num : (a : Option Kind) (d : ℕ) (k : Kind) → of_division a d ≡ Some k → k ≡ kinds.Num
of_division-Num (Some kinds.Num) d k e = by (leb 1 d) e
  where
    by : (b : Bool) → (if b then Some kinds.Num else None) ≡ Some k → k ≡ kinds.Num
    by true g = (cc)
    by false g = (cc)
of_division-Num (Some kinds.Text) d k e = (cc)
of_division-Num None d k e = (cc)

-- the kind of a row's value in a column
kind_of-get_or : (row : List Value) (columns : List Kind) (c : ℕ) (k : Kind) → map kind_of row ≡ columns
    → slice_get columns c ≡ Some k → kind_of (get_or row c (values.Num 0)) ≡ k
kind_of-get_or [] [] c k e f = (cc)
kind_of-get_or [] (l ∷ ls) c k e f = (cc)
kind_of-get_or (v ∷ row) [] c k e f = (cc)
kind_of-get_or (v ∷ row) (l ∷ ls) zero k e f = (cc)
kind_of-get_or (v ∷ row) (l ∷ ls) (suc c) k e f = kind_of-get_or row ls c k (cc) f

module _ (columns : List Kind) (row : List Value) (shape : map kind_of row ≡ columns) where
  -- by the form of the expression
  kind_of-roll : (x : Expr-F Expr) (k : Kind) → expr_kind columns (roll-Expr x) ≡ Some k
      → kind_of (eval (roll-Expr x) row) ≡ k
  kind_of-roll (Expr-F.Column c) k e =
      rw (exprs.rolls-Column c, eval-Column row c)
      (kind_of-get_or row columns c k shape
      (sym (expr_kind-Column columns c) ∙ (rw (exprs.rolls-Column c) at e)))
  kind_of-roll (Expr-F.Num n) k e =
      let f : Some kinds.Num ≡ Some k = sym (expr_kind-Num columns n) ∙ (rw (exprs.rolls-Num n) at e) in
      rw (exprs.rolls-Num n, eval-Num row n) (cc)
  kind_of-roll (Expr-F.Text t) k e =
      let f : Some kinds.Text ≡ Some k = sym (expr_kind-Text columns t) ∙ (rw (exprs.rolls-Text t) at e) in
      rw (exprs.rolls-Text t, eval-Text row t) (cc)
  kind_of-roll (Expr-F.Add a b) k e =
      rw (exprs.rolls-Add a b, eval-Add row a b)
      (sym (of_numbers-Num _ _ k (sym (expr_kind-Add columns a b) ∙ (rw (exprs.rolls-Add a b) at e))))
  kind_of-roll (Expr-F.Mul a b) k e =
      rw (exprs.rolls-Mul a b, eval-Mul row a b)
      (sym (of_numbers-Num _ _ k (sym (expr_kind-Mul columns a b) ∙ (rw (exprs.rolls-Mul a b) at e))))
  kind_of-roll (Expr-F.IntDiv a d) k e =
      rw (exprs.rolls-IntDiv a d, eval-IntDiv row a d)
      (sym (of_division-Num _ d k (sym (expr_kind-IntDiv columns a d) ∙ (rw (exprs.rolls-IntDiv a d) at e))))
  kind_of-roll (Expr-F.Mod a d) k e =
      rw (exprs.rolls-Mod a d, eval-Mod row a d)
      (sym (of_division-Num _ d k (sym (expr_kind-Mod columns a d) ∙ (rw (exprs.rolls-Mod a d) at e))))

  -- the value is of the kind
  pub kind_of-eval : (e : Expr) (k : Kind) → expr_kind columns e ≡ Some k → kind_of (eval e row) ≡ k
  kind_of-eval e k h = rw (← roll-out-Expr e) (kind_of-roll (out-Expr e) k (rw (← roll-out-Expr e) at h))

-- a value that is built of literals is of the kind for any row
pub kind_of-built : (columns : List Kind) (row : List Value) (e : Expr) (k : Kind) → IsBuiltOf [] e
    → expr_kind columns e ≡ Some k → kind_of (eval e row) ≡ k
kind_of-built columns row e k (IsBuiltOf.key c) h = absurd (omega (arith, c.1))
kind_of-built columns row _ k (IsBuiltOf.number {n}) h =
    let f : Some kinds.Num ≡ Some k = sym (expr_kind-Num columns n) ∙ h in rw (eval-Num row n) (cc)
kind_of-built columns row _ k (IsBuiltOf.text {t}) h =
    let f : Some kinds.Text ≡ Some k = sym (expr_kind-Text columns t) ∙ h in rw (eval-Text row t) (cc)
kind_of-built columns row _ k (IsBuiltOf.sum {a} {b} x y) h =
    rw (eval-Add row a b) (sym (of_numbers-Num _ _ k (sym (expr_kind-Add columns a b) ∙ h)))
kind_of-built columns row _ k (IsBuiltOf.product {a} {b} x y) h =
    rw (eval-Mul row a b) (sym (of_numbers-Num _ _ k (sym (expr_kind-Mul columns a b) ∙ h)))
kind_of-built columns row _ k (IsBuiltOf.quotient {a} {d} x) h =
    rw (eval-IntDiv row a d) (sym (of_division-Num _ d k (sym (expr_kind-IntDiv columns a d) ∙ h)))
kind_of-built columns row _ k (IsBuiltOf.remainder {a} {d} x) h =
    rw (eval-Mod row a d) (sym (of_division-Num _ d k (sym (expr_kind-Mod columns a d) ∙ h)))
