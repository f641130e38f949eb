-- What holds of each element of a list.
use Rattle.std.proofs.Common.{◌≡◌, ℕ, zero, suc, Bool, List, [], ◌∷◌, ◌++◌, cond, Option, Some, slice_get}
use Rattle.std.proofs.Common.{subst}
use Rattle.std.specs.List.{AllByRecursion, find, flat_map}
use Rattle.std.proofs.lemmas.Bool.{cond_both}
use Rattle.std.proofs.lemmas.Option.{same_Some, none-some}

module _ {X : Type 0} (P : X → Type 0) where
  -- it holds of each of the first
  pub All-front : (xs ys : List X) → AllByRecursion P (xs ++ ys) → AllByRecursion P xs
  All-front [] ys all = tt
  All-front (x ∷ xs) ys all = (all.0, All-front xs ys all.1)

  -- and of the others
  pub All-back : (xs ys : List X) → AllByRecursion P (xs ++ ys) → AllByRecursion P ys
  All-back [] ys all = all
  All-back (x ∷ xs) ys all = All-back xs ys all.1

  -- where it holds of each of both, it holds of all
  pub All-append : (xs ys : List X) → AllByRecursion P xs → AllByRecursion P ys → AllByRecursion P (xs ++ ys)
  All-append [] ys first last = last
  All-append (x ∷ xs) ys first last = (first.0, All-append xs ys first.1 last)

  -- of one that a place has
  pub All-slice_get : (xs : List X) (i : ℕ) (x : X) → AllByRecursion P xs → slice_get xs i ≡ Some x → P x
  All-slice_get [] i x all here = absurd (none-some x here)
  All-slice_get (y ∷ ys) zero x all here = subst P (same_Some y x here) all.0
  All-slice_get (y ∷ ys) (suc i) x all here = All-slice_get ys i x all.1 here

  -- of the first that passes a test
  pub All-find : (test : X → Bool) (xs : List X) (x : X) → AllByRecursion P xs → find test xs ≡ Some x → P x
  All-find test [] x all here = absurd (none-some x here)
  All-find test (y ∷ ys) x all here =
      cond_both (test y) (Some y) (find test ys) (λ (o : Option X). o ≡ Some x → P x)
      (λ passes e. subst P (same_Some y x e) all.0) (λ fails e. All-find test ys x all.1 e) here

  -- none of no elements
  pub All-unless : (b : Bool) (xs : List X) → AllByRecursion P xs → AllByRecursion P (cond b [] xs)
  All-unless b xs all = cond_both b [] xs (AllByRecursion P) (λ is. tt) (λ isnt. all)

  -- where it holds of the elements that each part has, it holds of those of all
  pub All-flat_map : {Y : Type 0} (view : Y → List X) (ys : List Y)
      → AllByRecursion (λ y. AllByRecursion P (view y)) ys → AllByRecursion P (flat_map view ys)
  All-flat_map view [] all = tt
  All-flat_map view (y ∷ ys) all = All-append (view y) (flat_map view ys) all.0 (All-flat_map view ys all.1)

-- where another fact follows, that holds of each
pub All-map : {X : Type 0} (P Q : X → Type 0) (xs : List X) → ((x : X) → P x → Q x) → AllByRecursion P xs
    → AllByRecursion Q xs
All-map P Q [] f all = tt
All-map P Q (x ∷ xs) f all = (f x all.0, All-map P Q xs f all.1)
