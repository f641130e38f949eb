-- Whether a query keeps the kinds of its columns, and its groups.
use Rattle.std.proofs.Common.{◌≡◌, ℕ, zero, suc, ◌<◌, List, [], ◌∷◌, length, Bool, true, false}
use Rattle.std.proofs.Common.{Option, Some, None, Contains, refl, sym, ap, ◌∙◌, subst, inl, inr, arith}
use Rattle.std.specs.Prelude.{slice_index_or}
use Rattle.std.specs.List.{AllByRecursion}
use Rattle.std.proofs.lemmas.Bool.{false≢true}
use Rattle.std.proofs.lemmas.Option.{none-some, same_Some}
use Rattle.pj_value.specs.declared.value.Kind.{Kind}
use Rattle.pj_value.specs.declared.value.Kind.TheVariants as kinds
use Rattle.pj_value.specs.declared.value.AggKind.{AggKind}
use Rattle.pj_value.specs.declared.value.AggKind.TheVariants as aggregates
use Rattle.pj_expr.specs.declared.expr.Expr.{Expr, Expr-F, map-Expr, out-Expr, roll-Expr, roll-out-Expr}
use Rattle.pj_expr.specs.declared.expr.Expr.{out-roll-Expr, ind-Expr}
use Rattle.pj_expr.specs.declared.expr.Expr.TheVariants as exprs
use Rattle.pj_expr.specs.declared.query.Item.{Item}
use Rattle.pj_expr.specs.declared.query.Item.TheVariants.{Plain, Agg}
use Rattle.pj_expr.specs.declared.query.Query.{Query}
use Rattle.pj_expr.specs.Fits.{expr_kind, FitsExpr, FitsCond, FitsCallOf, FitsItem, IsBuiltOf, IsOfGroup}
use Rattle.pj_expr.specs.Fits.{aggregates_rows, KeepsKinds, KeepsGroups}
use Rattle.pj_expr.proofs.BuiltLemmas.{built-Column, built-Add, built-Mul, built-IntDiv, built-Mod}
use Rattle.pj_bind.proofs.decided.Decided.{Decided, decided-both, decided-by, decided-nat, decided-bytes}
use Rattle.pj_bind.proofs.decided.Decided.{decided-all, decided-true}
use Rattle.pj_bind.proofs.decided.FillingDecided.{decided-kind}

-- ---- kinds

module _ (columns : List Kind) where
  -- an expression
  decided-FitsExpr : (e : Expr) → Decided (FitsExpr columns e)
  decided-FitsExpr e = by (expr_kind columns e) refl
    where
      by : (o : Option Kind) → expr_kind columns e ≡ o → Decided (FitsExpr columns e)
      by (Some kind) is = inl (kind, is)
      by None is = inr (λ fits. none-some fits.0 (sym is ∙ fits.1))

  -- one of this kind
  decided-has_kind : (e : Expr) (kind : Kind) → Decided (expr_kind columns e ≡ Some kind)
  decided-has_kind e kind = by (expr_kind columns e)
    where
      by : (o : Option Kind) → Decided (o ≡ Some kind)
      by (Some other) =
          decided-by (λ same. ap (λ k. Some k) same) (λ same. same_Some other kind same)
          (decided-kind other kind)
      by None = inr (λ e. none-some kind e)

  -- an argument that must be there
  decided-argument : (P : Expr → Type 0) → ((e : Expr) → Decided (P e)) → (argument : Option Expr)
      → Decided ((e : Expr) × (argument ≡ Some e) × P e)
  decided-argument P d None = inr (λ has. none-some has.0 has.1)
  decided-argument P d (Some e) =
      decided-by (λ p. (e, refl, p)) (λ has. subst P (sym (same_Some e has.0 has.1)) has.2) (d e)

  -- a call
  decided-FitsCallOf : (kind : AggKind) (argument : Option Expr) → Decided (FitsCallOf columns kind argument)
  decided-FitsCallOf aggregates.Count None = inl refl
  decided-FitsCallOf aggregates.Count (Some e) = inr (λ is. none-some e (sym is))
  decided-FitsCallOf aggregates.Sum argument = decided-argument (λ e. expr_kind columns e ≡ Some kinds.Num)
      (λ e. decided-has_kind e kinds.Num) argument
  decided-FitsCallOf aggregates.Min argument = decided-argument (FitsExpr columns) decided-FitsExpr argument
  decided-FitsCallOf aggregates.Max argument = decided-argument (FitsExpr columns) decided-FitsExpr argument
  decided-FitsCallOf aggregates.UniqExact argument =
      decided-argument (FitsExpr columns) decided-FitsExpr argument

  -- an item
  decided-FitsItem : (item : Item) → Decided (FitsItem columns item)
  decided-FitsItem (Plain e) = decided-FitsExpr e
  decided-FitsItem (Agg call) = decided-FitsCallOf call.kind call.argument

  -- a query
  pub decided-KeepsKinds : (q : Query) → Decided (KeepsKinds columns q)
  decided-KeepsKinds q =
      decided-by {P = FitsCond columns q.filter × (AllByRecursion (FitsItem columns) q.items
      × (AllByRecursion (FitsExpr columns) q.groups
      × AllByRecursion (λ key. FitsItem columns key.item) q.order))}
      (λ all. record { filter = all.0; items = all.1.0; groups = all.1.1.0; order = all.1.1.1 })
      (λ keeps. (keeps.filter, (keeps.items, (keeps.groups, keeps.order))))
      (decided-both (decided-true _)
      (decided-both (decided-all decided-FitsItem q.items)
      (decided-both (decided-all decided-FitsExpr q.groups)
      (decided-all (λ key. decided-FitsItem key.item) q.order))))

-- ---- equal expressions

-- an expression for which a fact is known
abbrev Known : (Expr → Type 0) → Type 0
Known P = (e : Expr) × P e

-- whether it is another one
abbrev IsTold : Expr → Type 0
IsTold e = (f : Expr) → Decided (e ≡ f)

-- of one variant and of others
told : (y : Expr-F (Known IsTold)) (z : Expr-F Expr)
    → Decided (map-Expr (Known IsTold) Expr (λ k. k.0) y ≡ z)
told (Expr-F.Column c) (Expr-F.Column d) =
    decided-by (λ e. ap (λ (k : ℕ). Expr-F.Column k) e) (λ e. cc) (decided-nat c d)
told (Expr-F.Num m) (Expr-F.Num n) =
    decided-by (λ e. ap (λ (k : ℕ). Expr-F.Num k) e) (λ e. cc) (decided-nat m n)
told (Expr-F.Text s) (Expr-F.Text t) =
    decided-by (λ e. ap (λ (k : List ℕ). Expr-F.Text k) e) (λ e. cc) (decided-bytes s t)
told (Expr-F.Add a b) (Expr-F.Add c d) =
    decided-by (λ e. (λ i. Expr-F.Add (e.0 i) (e.1 i))) (λ e. (cc, cc)) (decided-both (a.1 c) (b.1 d))
told (Expr-F.Mul a b) (Expr-F.Mul c d) =
    decided-by (λ e. (λ i. Expr-F.Mul (e.0 i) (e.1 i))) (λ e. (cc, cc)) (decided-both (a.1 c) (b.1 d))
told (Expr-F.IntDiv a m) (Expr-F.IntDiv b n) =
    decided-by (λ e. (λ i. Expr-F.IntDiv (e.0 i) (e.1 i))) (λ e. (cc, cc))
    (decided-both (a.1 b) (decided-nat m n))
told (Expr-F.Mod a m) (Expr-F.Mod b n) =
    decided-by (λ e. (λ i. Expr-F.Mod (e.0 i) (e.1 i))) (λ e. (cc, cc)) (decided-both (a.1 b)
    (decided-nat m n))
told y z = inr (λ e. cc)

-- two expressions
decided-same : (e f : Expr) → Decided (e ≡ f)
decided-same =
    ind-Expr IsTold (λ x y is f.
    decided-by (λ e. ap roll-Expr (sym is ∙ e) ∙ roll-out-Expr f)
    (λ e. is ∙ sym (out-roll-Expr x) ∙ ap out-Expr e) (told y (out-Expr f)))

-- an expression among others
decided-among : (keys : List Expr) (e : Expr) → Decided (Contains keys e)
decided-among [] e = inr (λ among. omega (arith, among.1))
decided-among (key ∷ keys) e = by (decided-same key e) (decided-among keys e)
  where
    by : Decided (key ≡ e) → Decided (Contains keys e) → Decided (Contains (key ∷ keys) e)
    by (inl is) more = inl (0, omega arith, is)
    by (inr other) (inl (k, within, is)) = inl (suc k, omega (arith, within), is)
    by (inr other) (inr none) = inr (λ (among : Contains (key ∷ keys) e). at among.0 among.1 among.2)
      where
        at : (k : ℕ) → k < length (key ∷ keys) → slice_index_or (key ∷ keys) k e ≡ e → ⊥
        at zero within is = other is
        at (suc k) within is = none (k, omega (arith, within), is)

-- ---- groups

module _ (keys : List Expr) where
  -- what is built of values of GROUP BY
  abbrev IsJudged : Expr → Type 0
  IsJudged e = Decided (IsBuiltOf keys e)

  -- of its parts
  parts_decided : (y : Expr-F (Known IsJudged))
      → (Contains keys (roll-Expr (map-Expr (Known IsJudged) Expr (λ k. k.0) y)) → ⊥)
      → IsJudged (roll-Expr (map-Expr (Known IsJudged) Expr (λ k. k.0) y))
  parts_decided (Expr-F.Column c) not_so =
      rw (exprs.rolls-Column c) (inr (built-Column keys c (rw (exprs.rolls-Column c) at not_so)))
  parts_decided (Expr-F.Num n) not_so = rw (exprs.rolls-Num n) (inl IsBuiltOf.number)
  parts_decided (Expr-F.Text t) not_so = rw (exprs.rolls-Text t) (inl IsBuiltOf.text)
  parts_decided (Expr-F.Add a b) not_so =
      let n = (rw (exprs.rolls-Add a.0 b.0) at not_so) in
      rw (exprs.rolls-Add a.0 b.0)
      (decided-by (λ both. IsBuiltOf.sum both.0 both.1) (built-Add keys a.0 b.0 n) (decided-both a.1 b.1))
  parts_decided (Expr-F.Mul a b) not_so =
      let n = (rw (exprs.rolls-Mul a.0 b.0) at not_so) in
      rw (exprs.rolls-Mul a.0 b.0)
      (decided-by (λ both. IsBuiltOf.product both.0 both.1) (built-Mul keys a.0 b.0 n) (decided-both a.1 b.1))
  parts_decided (Expr-F.IntDiv a d) not_so =
      let n = (rw (exprs.rolls-IntDiv a.0 d) at not_so) in
      rw (exprs.rolls-IntDiv a.0 d)
      (decided-by (λ part. IsBuiltOf.quotient part) (built-IntDiv keys a.0 d n) a.1)
  parts_decided (Expr-F.Mod a d) not_so =
      let n = (rw (exprs.rolls-Mod a.0 d) at not_so) in
      rw (exprs.rolls-Mod a.0 d)
      (decided-by (λ part. IsBuiltOf.remainder part) (built-Mod keys a.0 d n) a.1)

  -- an expression
  decided-IsBuiltOf : (e : Expr) → Decided (IsBuiltOf keys e)
  decided-IsBuiltOf =
      ind-Expr IsJudged (λ x y is.
      subst (λ z. IsJudged (roll-Expr z)) is
      (by y (decided-among keys (roll-Expr (map-Expr (Known IsJudged) Expr (λ k. k.0) y)))))
    where
      by : (y : Expr-F (Known IsJudged))
          → Decided (Contains keys (roll-Expr (map-Expr (Known IsJudged) Expr (λ k. k.0) y)))
          → IsJudged (roll-Expr (map-Expr (Known IsJudged) Expr (λ k. k.0) y))
      by y (inl among) = inl (IsBuiltOf.key among)
      by y (inr not_so) = parts_decided y not_so

  -- an item
  decided-IsOfGroup : (item : Item) → Decided (IsOfGroup keys item)
  decided-IsOfGroup (Plain e) = decided-IsBuiltOf e
  decided-IsOfGroup (Agg call) = inl tt

-- where a query aggregates
decided-if : {P : Type 0} (b : Bool) → Decided P → Decided (b ≡ true → P)
decided-if true (inl p) = inl (λ e. p)
decided-if true (inr not_so) = inr (λ when. not_so (when refl))
decided-if false d = inl (λ e. absurd (false≢true e))

-- a query
pub decided-KeepsGroups : (q : Query) → Decided (KeepsGroups q)
decided-KeepsGroups q =
    decided-by {P = (aggregates_rows q ≡ true → AllByRecursion (IsOfGroup q.groups) q.items)
    × (aggregates_rows q ≡ true → AllByRecursion (λ key. IsOfGroup q.groups key.item) q.order)}
    (λ both. record { items = both.0; order = both.1 })
    (λ keeps. (keeps.items, keeps.order))
    (decided-both (decided-if (aggregates_rows q) (decided-all (decided-IsOfGroup q.groups) q.items))
    (decided-if (aggregates_rows q) (decided-all (λ key. decided-IsOfGroup q.groups key.item) q.order)))
