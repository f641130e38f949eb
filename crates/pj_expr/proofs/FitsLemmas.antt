-- The kinds of expressions: one equation for each variant, and what the parts of one that fits are.
use Rattle.std.proofs.Common.{◌≡◌, ℕ, ◌≤◌, ◌<◌, Bool, true, false, List, length, get_or}
use Rattle.std.proofs.Common.{Option, Some, None}
use Rattle.std.proofs.Common.{refl, sym, ap, ◌∙◌}
use Rattle.std.proofs.lemmas.Option.{slice_get_within, get_or_from_slice_get}
use Rattle.std.proofs.Math.Dec.{leb}
use Rattle.std.proofs.lemmas.Bool.{leb-true}
use Rattle.std.specs.Prelude.{slice_get, if◌then◌else◌}
use Rattle.pj_value.specs.declared.value.Kind.{Kind}
use Rattle.pj_value.specs.declared.value.Kind.TheVariants as kinds
use Rattle.pj_expr.specs.declared.expr.Expr.{Expr, Expr-F, fold-roll-Expr}
use Rattle.pj_expr.specs.declared.expr.Expr.TheVariants as exprs
use Rattle.pj_expr.specs.declared.cond.Op.{Op}
use Rattle.pj_expr.specs.declared.cond.Cond.{Cond-F, fold-Cond, fold-roll-Cond}
use Rattle.pj_expr.specs.declared.cond.Cond.TheVariants as conds
use Rattle.pj_expr.specs.Fits.{of_numbers, of_division, alike, kind_step, expr_kind, cond_step, FitsExpr}
use Rattle.pj_expr.specs.Fits.{FitsCond}

-- both operands are numbers
pub record AreNumbers (a b : Option Kind) : Type 0 where
  pub first : a ≡ Some kinds.Num
  pub second : b ≡ Some kinds.Num

-- a number is divided, and not by 0
pub record IsDivided (a : Option Kind) (d : ℕ) : Type 0 where
  pub dividend : a ≡ Some kinds.Num
  pub divisor : 1 ≤ d

-- what has a kind is of two numbers
pub AreNumbers-from : (a b : Option Kind) (k : Kind) → of_numbers a b ≡ Some k → AreNumbers a b
AreNumbers-from (Some kinds.Num) (Some kinds.Num) k e = record { first = refl; second = refl }
AreNumbers-from (Some kinds.Num) (Some kinds.Text) k e = (cc)
AreNumbers-from (Some kinds.Num) None k e = (cc)
AreNumbers-from (Some kinds.Text) b k e = (cc)
AreNumbers-from None b k e = (cc)

-- what has a kind is a number, and the divisor isn't 0
pub IsDivided-from : (a : Option Kind) (d : ℕ) (k : Kind) → of_division a d ≡ Some k → IsDivided a d
IsDivided-from (Some kinds.Num) d k e = record { dividend = refl; divisor = by (leb 1 d) refl e }
  where
    by : (b : Bool) → leb 1 d ≡ b → (if b then Some kinds.Num else None) ≡ Some k → 1 ≤ d
    by true f g = leb-true 1 d f
    by false f g = (cc)
IsDivided-from (Some kinds.Text) d k e = (cc)
IsDivided-from None d k e = (cc)

module _ (columns : List Kind) where
  -- a column
  pub expr_kind-Column : (c : ℕ) → expr_kind columns (exprs.Column c) ≡ slice_get columns c
  expr_kind-Column c =
      ap (expr_kind columns) (sym (exprs.rolls-Column c))
      ∙ fold-roll-Expr (Option Kind) (kind_step columns) (Expr-F.Column c)

  -- a number
  pub expr_kind-Num : (n : ℕ) → expr_kind columns (exprs.Num n) ≡ Some kinds.Num
  expr_kind-Num n =
      ap (expr_kind columns) (sym (exprs.rolls-Num n))
      ∙ fold-roll-Expr (Option Kind) (kind_step columns) (Expr-F.Num n)

  -- a text
  pub expr_kind-Text : (t : List ℕ) → expr_kind columns (exprs.Text t) ≡ Some kinds.Text
  expr_kind-Text t =
      ap (expr_kind columns) (sym (exprs.rolls-Text t))
      ∙ fold-roll-Expr (Option Kind) (kind_step columns) (Expr-F.Text t)

  -- a sum
  pub expr_kind-Add : (a b : Expr)
      → expr_kind columns (exprs.Add a b) ≡ of_numbers (expr_kind columns a) (expr_kind columns b)
  expr_kind-Add a b =
      ap (expr_kind columns) (sym (exprs.rolls-Add a b))
      ∙ fold-roll-Expr (Option Kind) (kind_step columns) (Expr-F.Add a b)

  -- a product
  pub expr_kind-Mul : (a b : Expr)
      → expr_kind columns (exprs.Mul a b) ≡ of_numbers (expr_kind columns a) (expr_kind columns b)
  expr_kind-Mul a b =
      ap (expr_kind columns) (sym (exprs.rolls-Mul a b))
      ∙ fold-roll-Expr (Option Kind) (kind_step columns) (Expr-F.Mul a b)

  -- a quotient
  pub expr_kind-IntDiv : (a : Expr) (d : ℕ)
      → expr_kind columns (exprs.IntDiv a d) ≡ of_division (expr_kind columns a) d
  expr_kind-IntDiv a d =
      ap (expr_kind columns) (sym (exprs.rolls-IntDiv a d))
      ∙ fold-roll-Expr (Option Kind) (kind_step columns) (Expr-F.IntDiv a d)

  -- a remainder
  pub expr_kind-Mod : (a : Expr) (d : ℕ)
      → expr_kind columns (exprs.Mod a d) ≡ of_division (expr_kind columns a) d
  expr_kind-Mod a d =
      ap (expr_kind columns) (sym (exprs.rolls-Mod a d))
      ∙ fold-roll-Expr (Option Kind) (kind_step columns) (Expr-F.Mod a d)

  -- the parts of an expression that fits
  pub FitsExpr-Column : (c : ℕ) → FitsExpr columns (exprs.Column c) → c < length columns
  FitsExpr-Column c f = slice_get_within columns c f.0 (sym (expr_kind-Column c) ∙ f.1)

  -- the kind of a column that has one
  pub column_kind : (c : ℕ) (k : Kind) → expr_kind columns (exprs.Column c) ≡ Some k
      → get_or columns c kinds.Num ≡ k
  column_kind c k h = get_or_from_slice_get columns c k kinds.Num (sym (expr_kind-Column c) ∙ h)

  pub FitsExpr-Add : (a b : Expr) → FitsExpr columns (exprs.Add a b)
      → AreNumbers (expr_kind columns a) (expr_kind columns b)
  FitsExpr-Add a b f = AreNumbers-from (expr_kind columns a) (expr_kind columns b) f.0
      (sym (expr_kind-Add a b) ∙ f.1)

  pub FitsExpr-Mul : (a b : Expr) → FitsExpr columns (exprs.Mul a b)
      → AreNumbers (expr_kind columns a) (expr_kind columns b)
  FitsExpr-Mul a b f = AreNumbers-from (expr_kind columns a) (expr_kind columns b) f.0
      (sym (expr_kind-Mul a b) ∙ f.1)

  pub FitsExpr-IntDiv : (a : Expr) (d : ℕ) → FitsExpr columns (exprs.IntDiv a d)
      → IsDivided (expr_kind columns a) d
  FitsExpr-IntDiv a d f = IsDivided-from (expr_kind columns a) d f.0 (sym (expr_kind-IntDiv a d) ∙ f.1)

  pub FitsExpr-Mod : (a : Expr) (d : ℕ) → FitsExpr columns (exprs.Mod a d) → IsDivided (expr_kind columns a) d
  FitsExpr-Mod a d f = IsDivided-from (expr_kind columns a) d f.0 (sym (expr_kind-Mod a d) ∙ f.1)

-- two values of one kind
pub record HaveOneKind (a b : Option Kind) : Type 0 where
  pub kind : Kind
  pub first : a ≡ Some kind
  pub second : b ≡ Some kind

HaveOneKind-from : (a b : Option Kind) → alike a b ≡ true → HaveOneKind a b
HaveOneKind-from (Some kinds.Num) (Some kinds.Num)
    e = record { kind = kinds.Num; first = refl; second = refl }
HaveOneKind-from (Some kinds.Num) (Some kinds.Text) e = (cc)
HaveOneKind-from (Some kinds.Num) None e = (cc)
HaveOneKind-from (Some kinds.Text) (Some kinds.Num) e = (cc)
HaveOneKind-from (Some kinds.Text) (Some kinds.Text)
    e = record { kind = kinds.Text; first = refl; second = refl }
HaveOneKind-from (Some kinds.Text) None e = (cc)
HaveOneKind-from None b e = (cc)

-- of two values of one kind, both have that of the first
pub other_kind : (a b : Option Kind) (k : Kind) → a ≡ Some k → alike a b ≡ true → b ≡ Some k
other_kind a b k e f = let h : HaveOneKind a b = HaveOneKind-from a b f in (cc)

-- both sides of a comparison that fits are of one kind
pub FitsCond-Compare : (columns : List Kind) (op : Op) (a b : Expr) → FitsCond columns (conds.Compare op a b)
    → HaveOneKind (expr_kind columns a) (expr_kind columns b)
FitsCond-Compare columns op a b f =
    HaveOneKind-from (expr_kind columns a) (expr_kind columns b)
    (sym (ap (fold-Cond Bool (cond_step columns)) (sym (conds.rolls-Compare op a b))
    ∙ fold-roll-Cond Bool (cond_step columns) (Cond-F.Compare op a b)) ∙ f)
