-- What narrowed expressions and conditions are for rows and kinds of the columns that are kept.
use Rattle.std.proofs.Common.{◌≡◌, ℕ, ◌+◌, ◌*◌, ◌/◌, ◌%◌, ◌^◌, true, ◌&&◌, ◌||◌, not, List, map, get_or}
use Rattle.std.proofs.Common.{refl, sym, ap, ◌∙◌}
use Rattle.std.specs.Prelude.{slice_get}
use Rattle.std.proofs.lemmas.Bool.{eq-eqb}
use Rattle.pj_value.specs.declared.value.Kind.{Kind}
use Rattle.pj_value.specs.declared.value.Value.{Value}
use Rattle.pj_value.specs.declared.value.Value.TheVariants as values
use Rattle.pj_value.specs.Order.{value_cmp}
use Rattle.pj_value.specs.Aggregates.{number_in}
use Rattle.pj_expr.specs.declared.expr.Expr.{Expr}
use Rattle.pj_expr.specs.declared.expr.Expr.TheVariants as exprs
use Rattle.pj_expr.specs.declared.cond.Cond.{Cond}
use Rattle.pj_expr.specs.Eval.{eval, meets, holds}
use Rattle.pj_expr.specs.Fits.{of_numbers, of_division, alike, expr_kind, IsBuiltOf}
use Rattle.pj_expr.specs.Fits.{key, number, text, sum, product, quotient, remainder}
use Rattle.pj_expr.proofs.EvalLemmas.{eval-Column, eval-Num, eval-Text, eval-Add, eval-Mul, eval-IntDiv}
use Rattle.pj_expr.proofs.EvalLemmas.{eval-Mod, holds-All, holds-Compare, holds-And, holds-Or, holds-Not}
use Rattle.pj_expr.proofs.FitsLemmas.{expr_kind-Column, expr_kind-Num, expr_kind-Text}
use Rattle.pj_expr.proofs.FitsLemmas.{expr_kind-Add, expr_kind-Mul, expr_kind-IntDiv, expr_kind-Mod}
use Rattle.pj_narrow.specs.Narrowing.{expr_uses, cond_uses, place_among, narrowed_expr, narrowed_cond}
use Rattle.pj_narrow.proofs.ListLemmas.{or-first, or-second, Contains-mapped}
use Rattle.pj_narrow.proofs.TreeLemmas.{each_expr, each_cond}
use Rattle.pj_narrow.proofs.UsesLemmas.{expr_uses-Column, expr_uses-Add, expr_uses-Mul, expr_uses-IntDiv}
use Rattle.pj_narrow.proofs.UsesLemmas.{expr_uses-Mod, cond_uses-Compare, cond_uses-And, cond_uses-Or}
use Rattle.pj_narrow.proofs.UsesLemmas.{cond_uses-Not}
use Rattle.pj_narrow.proofs.FitsLemmas.{cond_fits, cond_fits-All, cond_fits-Compare, cond_fits-And}
use Rattle.pj_narrow.proofs.FitsLemmas.{cond_fits-Or, cond_fits-Not}
use Rattle.pj_narrow.proofs.NarrowLemmas.{narrowed_expr-Column, narrowed_expr-Num, narrowed_expr-Text}
use Rattle.pj_narrow.proofs.NarrowLemmas.{narrowed_expr-Add, narrowed_expr-Mul, narrowed_expr-IntDiv}
use Rattle.pj_narrow.proofs.NarrowLemmas.{narrowed_expr-Mod, narrowed_cond-All, narrowed_cond-Compare}
use Rattle.pj_narrow.proofs.NarrowLemmas.{narrowed_cond-And, narrowed_cond-Or, narrowed_cond-Not}

-- an expression uses its column
uses_itself : (c : ℕ) → expr_uses c (exprs.Column c) ≡ true
uses_itself c = expr_uses-Column c c ∙ eq-eqb c c refl

-- ---- of a row, and of one with the same values in the columns that are used

module _ (columns : List ℕ) (row narrow : List Value) where
  -- a column has the same value in both
  abbrev IsSeen : ℕ → Type 0
  IsSeen c = get_or narrow (place_among columns c) (values.Num 0) ≡ get_or row c (values.Num 0)

  -- an expression
  pub eval-narrowed : (e : Expr) → ((c : ℕ) → expr_uses c e ≡ true → IsSeen c)
      → eval (narrowed_expr columns e) narrow ≡ eval e row
  eval-narrowed = each_expr
      (λ e. ((c : ℕ) → expr_uses c e ≡ true → IsSeen c) → eval (narrowed_expr columns e) narrow ≡ eval e row)
      (λ c seen.
      ap (λ e. eval e narrow) (narrowed_expr-Column columns c) ∙ eval-Column narrow (place_among columns c)
      ∙ seen c (uses_itself c) ∙ sym (eval-Column row c))
      (λ n seen.
      ap (λ e. eval e narrow) (narrowed_expr-Num columns n) ∙ eval-Num narrow n ∙ sym (eval-Num row n))
      (λ t seen.
      ap (λ e. eval e narrow) (narrowed_expr-Text columns t) ∙ eval-Text narrow t ∙ sym (eval-Text row t))
      (λ a b first second seen.
      let x = first (λ c u. seen c (expr_uses-Add c a b ∙ or-first (expr_uses c a) (expr_uses c b) u)) in
      let y = second (λ c u. seen c (expr_uses-Add c a b ∙ or-second (expr_uses c a) (expr_uses c b) u)) in
      ap (λ e. eval e narrow) (narrowed_expr-Add columns a b)
      ∙ eval-Add narrow (narrowed_expr columns a) (narrowed_expr columns b)
      ∙ (λ i. values.Num ((number_in (x i) + number_in (y i)) % 2 ^ 64)) ∙ sym (eval-Add row a b))
      (λ a b first second seen.
      let x = first (λ c u. seen c (expr_uses-Mul c a b ∙ or-first (expr_uses c a) (expr_uses c b) u)) in
      let y = second (λ c u. seen c (expr_uses-Mul c a b ∙ or-second (expr_uses c a) (expr_uses c b) u)) in
      ap (λ e. eval e narrow) (narrowed_expr-Mul columns a b)
      ∙ eval-Mul narrow (narrowed_expr columns a) (narrowed_expr columns b)
      ∙ (λ i. values.Num ((number_in (x i) * number_in (y i)) % 2 ^ 64)) ∙ sym (eval-Mul row a b))
      (λ a d first seen.
      ap (λ e. eval e narrow) (narrowed_expr-IntDiv columns a d)
      ∙ eval-IntDiv narrow (narrowed_expr columns a) d
      ∙ ap (λ v. values.Num (number_in v / d)) (first (λ c u. seen c (expr_uses-IntDiv c a d ∙ u)))
      ∙ sym (eval-IntDiv row a d))
      (λ a d first seen.
      ap (λ e. eval e narrow) (narrowed_expr-Mod columns a d)
      ∙ eval-Mod narrow (narrowed_expr columns a) d
      ∙ ap (λ v. values.Num (number_in v % d)) (first (λ c u. seen c (expr_uses-Mod c a d ∙ u)))
      ∙ sym (eval-Mod row a d))

  -- a condition
  pub holds-narrowed : (filter : Cond) → ((c : ℕ) → cond_uses c filter ≡ true → IsSeen c)
      → holds (narrowed_cond columns filter) narrow ≡ holds filter row
  holds-narrowed = each_cond
      (λ filter. ((c : ℕ) → cond_uses c filter ≡ true → IsSeen c)
      → holds (narrowed_cond columns filter) narrow ≡ holds filter row)
      (λ seen.
      ap (λ f. holds f narrow) (narrowed_cond-All columns) ∙ holds-All narrow ∙ sym (holds-All row))
      (λ op a b seen.
      let x = eval-narrowed a
      (λ c u. seen c (cond_uses-Compare c op a b ∙ or-first (expr_uses c a) (expr_uses c b) u)) in
      let y = eval-narrowed b
      (λ c u. seen c (cond_uses-Compare c op a b ∙ or-second (expr_uses c a) (expr_uses c b) u)) in
      ap (λ f. holds f narrow) (narrowed_cond-Compare columns op a b)
      ∙ holds-Compare narrow op (narrowed_expr columns a) (narrowed_expr columns b)
      ∙ (λ i. meets op (value_cmp (x i) (y i))) ∙ sym (holds-Compare row op a b))
      (λ a b first second seen.
      let x = first (λ c u. seen c (cond_uses-And c a b ∙ or-first (cond_uses c a) (cond_uses c b) u)) in
      let y = second (λ c u. seen c (cond_uses-And c a b ∙ or-second (cond_uses c a) (cond_uses c b) u)) in
      ap (λ f. holds f narrow) (narrowed_cond-And columns a b)
      ∙ holds-And narrow (narrowed_cond columns a) (narrowed_cond columns b) ∙ (λ i. x i && y i)
      ∙ sym (holds-And row a b))
      (λ a b first second seen.
      let x = first (λ c u. seen c (cond_uses-Or c a b ∙ or-first (cond_uses c a) (cond_uses c b) u)) in
      let y = second (λ c u. seen c (cond_uses-Or c a b ∙ or-second (cond_uses c a) (cond_uses c b) u)) in
      ap (λ f. holds f narrow) (narrowed_cond-Or columns a b)
      ∙ holds-Or narrow (narrowed_cond columns a) (narrowed_cond columns b) ∙ (λ i. x i || y i)
      ∙ sym (holds-Or row a b))
      (λ a first seen.
      ap (λ f. holds f narrow) (narrowed_cond-Not columns a) ∙ holds-Not narrow (narrowed_cond columns a)
      ∙ ap not (first (λ c u. seen c (cond_uses-Not c a ∙ u))) ∙ sym (holds-Not row a))

-- ---- of kinds, and of the same kinds in the columns that are used

module _ (columns : List ℕ) (kinds narrow : List Kind) where
  -- a column has the same kind in both
  abbrev HasKind : ℕ → Type 0
  HasKind c = slice_get narrow (place_among columns c) ≡ slice_get kinds c

  -- an expression
  pub expr_kind-narrowed : (e : Expr) → ((c : ℕ) → expr_uses c e ≡ true → HasKind c)
      → expr_kind narrow (narrowed_expr columns e) ≡ expr_kind kinds e
  expr_kind-narrowed = each_expr
      (λ e. ((c : ℕ) → expr_uses c e ≡ true → HasKind c)
      → expr_kind narrow (narrowed_expr columns e) ≡ expr_kind kinds e)
      (λ c has.
      ap (expr_kind narrow) (narrowed_expr-Column columns c)
      ∙ expr_kind-Column narrow (place_among columns c) ∙ has c (uses_itself c)
      ∙ sym (expr_kind-Column kinds c))
      (λ n has.
      ap (expr_kind narrow) (narrowed_expr-Num columns n) ∙ expr_kind-Num narrow n
      ∙ sym (expr_kind-Num kinds n))
      (λ t has.
      ap (expr_kind narrow) (narrowed_expr-Text columns t) ∙ expr_kind-Text narrow t
      ∙ sym (expr_kind-Text kinds t))
      (λ a b first second has.
      let x = first (λ c u. has c (expr_uses-Add c a b ∙ or-first (expr_uses c a) (expr_uses c b) u)) in
      let y = second (λ c u. has c (expr_uses-Add c a b ∙ or-second (expr_uses c a) (expr_uses c b) u)) in
      ap (expr_kind narrow) (narrowed_expr-Add columns a b)
      ∙ expr_kind-Add narrow (narrowed_expr columns a) (narrowed_expr columns b)
      ∙ (λ i. of_numbers (x i) (y i)) ∙ sym (expr_kind-Add kinds a b))
      (λ a b first second has.
      let x = first (λ c u. has c (expr_uses-Mul c a b ∙ or-first (expr_uses c a) (expr_uses c b) u)) in
      let y = second (λ c u. has c (expr_uses-Mul c a b ∙ or-second (expr_uses c a) (expr_uses c b) u)) in
      ap (expr_kind narrow) (narrowed_expr-Mul columns a b)
      ∙ expr_kind-Mul narrow (narrowed_expr columns a) (narrowed_expr columns b)
      ∙ (λ i. of_numbers (x i) (y i)) ∙ sym (expr_kind-Mul kinds a b))
      (λ a d first has.
      ap (expr_kind narrow) (narrowed_expr-IntDiv columns a d)
      ∙ expr_kind-IntDiv narrow (narrowed_expr columns a) d
      ∙ ap (λ k. of_division k d) (first (λ c u. has c (expr_uses-IntDiv c a d ∙ u)))
      ∙ sym (expr_kind-IntDiv kinds a d))
      (λ a d first has.
      ap (expr_kind narrow) (narrowed_expr-Mod columns a d)
      ∙ expr_kind-Mod narrow (narrowed_expr columns a) d
      ∙ ap (λ k. of_division k d) (first (λ c u. has c (expr_uses-Mod c a d ∙ u)))
      ∙ sym (expr_kind-Mod kinds a d))

  -- a condition
  pub cond_fits-narrowed : (filter : Cond) → ((c : ℕ) → cond_uses c filter ≡ true → HasKind c)
      → cond_fits narrow (narrowed_cond columns filter) ≡ cond_fits kinds filter
  cond_fits-narrowed = each_cond
      (λ filter. ((c : ℕ) → cond_uses c filter ≡ true → HasKind c)
      → cond_fits narrow (narrowed_cond columns filter) ≡ cond_fits kinds filter)
      (λ has.
      ap (cond_fits narrow) (narrowed_cond-All columns) ∙ cond_fits-All narrow ∙ sym (cond_fits-All kinds))
      (λ op a b has.
      let x = expr_kind-narrowed a
      (λ c u. has c (cond_uses-Compare c op a b ∙ or-first (expr_uses c a) (expr_uses c b) u)) in
      let y = expr_kind-narrowed b
      (λ c u. has c (cond_uses-Compare c op a b ∙ or-second (expr_uses c a) (expr_uses c b) u)) in
      ap (cond_fits narrow) (narrowed_cond-Compare columns op a b)
      ∙ cond_fits-Compare narrow op (narrowed_expr columns a) (narrowed_expr columns b)
      ∙ (λ i. alike (x i) (y i)) ∙ sym (cond_fits-Compare kinds op a b))
      (λ a b first second has.
      let x = first (λ c u. has c (cond_uses-And c a b ∙ or-first (cond_uses c a) (cond_uses c b) u)) in
      let y = second (λ c u. has c (cond_uses-And c a b ∙ or-second (cond_uses c a) (cond_uses c b) u)) in
      ap (cond_fits narrow) (narrowed_cond-And columns a b)
      ∙ cond_fits-And narrow (narrowed_cond columns a) (narrowed_cond columns b) ∙ (λ i. x i && y i)
      ∙ sym (cond_fits-And kinds a b))
      (λ a b first second has.
      let x = first (λ c u. has c (cond_uses-Or c a b ∙ or-first (cond_uses c a) (cond_uses c b) u)) in
      let y = second (λ c u. has c (cond_uses-Or c a b ∙ or-second (cond_uses c a) (cond_uses c b) u)) in
      ap (cond_fits narrow) (narrowed_cond-Or columns a b)
      ∙ cond_fits-Or narrow (narrowed_cond columns a) (narrowed_cond columns b) ∙ (λ i. x i && y i)
      ∙ sym (cond_fits-Or kinds a b))
      (λ a first has.
      ap (cond_fits narrow) (narrowed_cond-Not columns a) ∙ cond_fits-Not narrow (narrowed_cond columns a)
      ∙ first (λ c u. has c (cond_uses-Not c a ∙ u)) ∙ sym (cond_fits-Not kinds a))

-- ---- of groups

-- what is built of values of GROUP BY is built of them still
pub built-narrowed : (columns : List ℕ) (keys : List Expr) {e : Expr} → IsBuiltOf keys e
    → IsBuiltOf (map (narrowed_expr columns) keys) (narrowed_expr columns e)
built-narrowed columns keys (key {e} at) = IsBuiltOf.key (Contains-mapped (narrowed_expr columns) keys e at)
built-narrowed columns keys (number {n}) = rw (narrowed_expr-Num columns n) IsBuiltOf.number
built-narrowed columns keys (text {t}) = rw (narrowed_expr-Text columns t) IsBuiltOf.text
built-narrowed columns keys (sum {a} {b} x y) =
    rw (narrowed_expr-Add columns a b)
    (IsBuiltOf.sum (built-narrowed columns keys x) (built-narrowed columns keys y))
built-narrowed columns keys (product {a} {b} x y) =
    rw (narrowed_expr-Mul columns a b)
    (IsBuiltOf.product (built-narrowed columns keys x) (built-narrowed columns keys y))
built-narrowed columns keys (quotient {a} {d} x) =
    rw (narrowed_expr-IntDiv columns a d) (IsBuiltOf.quotient (built-narrowed columns keys x))
built-narrowed columns keys (remainder {a} {d} x) =
    rw (narrowed_expr-Mod columns a d) (IsBuiltOf.remainder (built-narrowed columns keys x))
