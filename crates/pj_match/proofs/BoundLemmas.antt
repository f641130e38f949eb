-- The bounds of a filter, one equation for each form of it, and what a row that holds the filter has to do with them.
use Rattle.std.proofs.Common.{◌≡◌, Bool, true, false, ◌&&◌, List, [], ◌∷◌, ◌++◌, refl, sym, ap, subst, ◌∙◌}
use Rattle.std.specs.Prelude.{Option, Some, None, is_some}
use Rattle.std.specs.List.{AllByRecursion}
use Rattle.std.specs.Ordering.{ordering_reverse}
use Rattle.std.specs.declared.cmp.Ordering.{Ordering}
use Rattle.std.specs.declared.cmp.Ordering.TheVariants.{Less, Equal, Greater}
use Rattle.std.proofs.lemmas.Bool.{false≢true}
use Rattle.pj_value.specs.declared.value.Value.{Value}
use Rattle.pj_value.specs.declared.value.Value.TheVariants as values
use Rattle.pj_value.specs.Order.{value_cmp}
use Rattle.pj_value.proofs.OrderLemmas.{value_total}
use Rattle.pj_expr.specs.declared.expr.Expr.{Expr, Expr-F, map-Expr, roll-Expr, ind-Expr, fold-roll-Expr}
use Rattle.pj_expr.specs.declared.cond.Op.{Op}
use Rattle.pj_expr.specs.declared.cond.Op.TheVariants as ops
use Rattle.pj_expr.specs.declared.cond.Cond.{Cond, Cond-F, map-Cond, roll-Cond, ind-Cond, fold-roll-Cond}
use Rattle.pj_expr.specs.declared.cond.Cond.TheVariants as conds
use Rattle.pj_expr.specs.Eval.{eval, eval_step, meets, holds}
use Rattle.pj_expr.proofs.EvalLemmas.{holds-Compare, holds-And}
use Rattle.pj_match.specs.Ranges.{Bound, turned, literal_step, literal, bound_by, bounds_step, bounds}

-- ---- the equations

pub bounds-All : bounds conds.All ≡ []
bounds-All = ap bounds (sym conds.rolls-All) ∙ fold-roll-Cond (List Bound) bounds_step Cond-F.All

pub bounds-Compare : (op : Op) (a b : Expr)
    → bounds (conds.Compare op a b) ≡ bound_by a op (literal b) ++ bound_by b (turned op) (literal a)
bounds-Compare op a b =
    ap bounds (sym (conds.rolls-Compare op a b))
    ∙ fold-roll-Cond (List Bound) bounds_step (Cond-F.Compare op a b)

pub bounds-And : (a b : Cond) → bounds (conds.And a b) ≡ bounds a ++ bounds b
bounds-And a b =
    ap bounds (sym (conds.rolls-And a b)) ∙ fold-roll-Cond (List Bound) bounds_step (Cond-F.And a b)

pub bounds-Or : (a b : Cond) → bounds (conds.Or a b) ≡ []
bounds-Or a b =
    ap bounds (sym (conds.rolls-Or a b)) ∙ fold-roll-Cond (List Bound) bounds_step (Cond-F.Or a b)

pub bounds-Not : (a : Cond) → bounds (conds.Not a) ≡ []
bounds-Not a =
    ap bounds (sym (conds.rolls-Not a)) ∙ fold-roll-Cond (List Bound) bounds_step (Cond-F.Not a)

-- ---- rows that hold a filter

-- what holds of two lists holds of them one behind the other
all-append : {X : Type 0} (P : X → Type 0) (xs ys : List X) → AllByRecursion P xs → AllByRecursion P ys
    → AllByRecursion P (xs ++ ys)
all-append P [] ys h k = k
all-append P (x ∷ xs) ys h k = (h.0, all-append P xs ys h.1 k)

-- a comparison whose sides are exchanged is met by the opposite order
meets-turned : (op : Op) (r : Ordering) → meets (turned op) (ordering_reverse r) ≡ meets op r
meets-turned ops.Eq Less = refl
meets-turned ops.Eq Equal = refl
meets-turned ops.Eq Greater = refl
meets-turned ops.Ne Less = refl
meets-turned ops.Ne Equal = refl
meets-turned ops.Ne Greater = refl
meets-turned ops.Lt Less = refl
meets-turned ops.Lt Equal = refl
meets-turned ops.Lt Greater = refl
meets-turned ops.Le Less = refl
meets-turned ops.Le Equal = refl
meets-turned ops.Le Greater = refl
meets-turned ops.Gt Less = refl
meets-turned ops.Gt Equal = refl
meets-turned ops.Gt Greater = refl
meets-turned ops.Ge Less = refl
meets-turned ops.Ge Equal = refl
meets-turned ops.Ge Greater = refl

both-true : (a b : Bool) → (a && b) ≡ true → (a ≡ true) × (b ≡ true)
both-true true b h = (refl, h)
both-true false b h = (h, absurd (cc))

-- the row meets a bound
abbrev pub Meets : List Value → Bound → Type 0
Meets row b = meets b.op (value_cmp (eval b.component row) b.value) ≡ true

module _ (row : List Value) where
  -- a literal has its value at each row
  abbrev HasValue : Expr → Type 0
  HasValue e = (v : Value) → literal e ≡ Some v → eval e row ≡ v

  -- no literal
  other-layer : (x : Expr-F Expr) → literal_step (map-Expr Expr (Option Value) literal x) ≡ None
      → HasValue (roll-Expr x)
  other-layer x none v h =
      let e = fold-roll-Expr (Option Value) literal_step x in absurd (false≢true (ap is_some (sym none ∙ sym e ∙ h)))

  literal-layer : (x : Expr-F Expr) → HasValue (roll-Expr x)
  literal-layer (Expr-F.Column c) = other-layer (Expr-F.Column c) refl
  literal-layer (Expr-F.Num n) = λ v h.
      let e = fold-roll-Expr (Option Value) literal_step (Expr-F.Num n) in
      let same : values.Num n ≡ v = (cc) in
      fold-roll-Expr Value (eval_step row) (Expr-F.Num n) ∙ same
  literal-layer (Expr-F.Text t) = λ v h.
      let e = fold-roll-Expr (Option Value) literal_step (Expr-F.Text t) in
      let same : values.Text t ≡ v = (cc) in
      fold-roll-Expr Value (eval_step row) (Expr-F.Text t) ∙ same
  literal-layer (Expr-F.Add a b) = other-layer (Expr-F.Add a b) refl
  literal-layer (Expr-F.Mul a b) = other-layer (Expr-F.Mul a b) refl
  literal-layer (Expr-F.IntDiv a d) = other-layer (Expr-F.IntDiv a d) refl
  literal-layer (Expr-F.Mod a d) = other-layer (Expr-F.Mod a d) refl

  literal-eval : (e : Expr) → HasValue e
  literal-eval = ind-Expr HasValue (λ x y is. literal-layer x)

  bound_by-met : (c : Expr) (op : Op) (found : Option Value)
      → ((v : Value) → found ≡ Some v → meets op (value_cmp (eval c row) v) ≡ true)
      → AllByRecursion (Meets row) (bound_by c op found)
  bound_by-met c op None h = tt
  bound_by-met c op (Some v) h = (h v refl, tt)

  -- those of a comparison that holds
  compare-met : (op : Op) (a b : Expr) → meets op (value_cmp (eval a row) (eval b row)) ≡ true
      → AllByRecursion (Meets row) (bound_by a op (literal b) ++ bound_by b (turned op) (literal a))
  compare-met op a b h =
      all-append (Meets row) (bound_by a op (literal b)) (bound_by b (turned op) (literal a))
      (bound_by-met a op (literal b)
      (λ v e. subst (λ w. meets op (value_cmp (eval a row) w) ≡ true) (literal-eval b v e) h))
      (bound_by-met b (turned op) (literal a)
      (λ v e. subst (λ w. meets (turned op) (value_cmp (eval b row) w) ≡ true) (literal-eval a v e)
      (ap (meets (turned op)) (value_total.antisymm (eval b row) (eval a row))
      ∙ meets-turned op (value_cmp (eval a row) (eval b row)) ∙ h)))

  -- where it holds a filter, it meets each of its bounds
  abbrev MeetsAll : Cond → Type 0
  MeetsAll filter = holds filter row ≡ true → AllByRecursion (Meets row) (bounds filter)

  -- a filter without bounds
  none-met : (filter : Cond) → bounds filter ≡ [] → MeetsAll filter
  none-met filter none h = subst (AllByRecursion (Meets row)) (sym none) tt

  compare-met-all : (op : Op) (a b : Expr) → MeetsAll (conds.Compare op a b)
  compare-met-all op a b h =
      subst (AllByRecursion (Meets row)) (sym (bounds-Compare op a b))
      (compare-met op a b (sym (holds-Compare row op a b) ∙ h))

  and-met : (a b : Cond) → MeetsAll a → MeetsAll b → MeetsAll (conds.And a b)
  and-met a b first second h =
      let both = both-true (holds a row) (holds b row) (sym (holds-And row a b) ∙ h) in
      subst (AllByRecursion (Meets row)) (sym (bounds-And a b))
      (all-append (Meets row) (bounds a) (bounds b) (first both.0) (second both.1))

  -- a filter for whose parts this is known
  abbrev Known : Type 0
  Known = (filter : Cond) × MeetsAll filter

  met-layer : (y : Cond-F Known) → MeetsAll (roll-Cond (map-Cond Known Cond (λ k. k.0) y))
  met-layer Cond-F.All = rw conds.rolls-All (none-met conds.All bounds-All)
  met-layer (Cond-F.Compare op a b) = rw (conds.rolls-Compare op a b) (compare-met-all op a b)
  met-layer (Cond-F.And a b) = rw (conds.rolls-And a.0 b.0) (and-met a.0 b.0 a.1 b.1)
  met-layer (Cond-F.Or a b) = rw (conds.rolls-Or a.0 b.0) (none-met (conds.Or a.0 b.0) (bounds-Or a.0 b.0))
  met-layer (Cond-F.Not a) = rw (conds.rolls-Not a.0) (none-met (conds.Not a.0) (bounds-Not a.0))

  pub bounds-met : (filter : Cond) → MeetsAll filter
  bounds-met = ind-Cond MeetsAll (λ x y is. subst (λ z. MeetsAll (roll-Cond z)) is (met-layer y))
