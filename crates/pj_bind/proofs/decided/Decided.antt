-- Facts that hold or don't.
use Rattle.std.proofs.Common.{◌≡◌, ℕ, ◌<◌, ◌≤◌, List, [], ◌∷◌, Bool, true, false, Option, Some, None, Decides}
use Rattle.std.proofs.Common.{refl, inl, inr, arith}
use Rattle.std.specs.Prelude.{◌⊎◌}
use Rattle.std.specs.List.{AllByRecursion}
use Rattle.std.proofs.lemmas.Bool.{false≢true, cases_lt}
use Rattle.std.proofs.lemmas.Bool.Decides.{Decides-eqb}
use Rattle.std.proofs.lemmas.Option.{none-some}
use Rattle.std.proofs.lemmas.Slice.Eq.{bytes_eq-Decides}

-- it holds, or it doesn't
abbrev pub Decided : Type 0 → Type 0
Decided P = P ⊎ (P → ⊥)

-- it holds of something, or of nothing
abbrev pub HasOrNone : {X : Type 0} → (X → Type 0) → Type 0
HasOrNone {X} P = ((x : X) × P x) ⊎ ((x : X) → P x → ⊥)

-- a fact that doesn't fail holds, where it is decided
pub holds : {P : Type 0} → Decided P → ((P → ⊥) → ⊥) → P
holds (inl p) unless = p
holds (inr not_so) unless = absurd (unless not_so)

-- the opposite
pub decided-not : {P : Type 0} → Decided P → Decided (P → ⊥)
decided-not (inl p) = inr (λ not_so. not_so p)
decided-not (inr not_so) = inl not_so

-- two facts
pub decided-both : {P Q : Type 0} → Decided P → Decided Q → Decided (P × Q)
decided-both (inl p) (inl q) = inl (p, q)
decided-both (inl p) (inr not_so) = inr (λ both. not_so both.1)
decided-both (inr not_so) d = inr (λ both. not_so both.0)

-- a fact that is another one
pub decided-by : {P Q : Type 0} → (P → Q) → (Q → P) → Decided P → Decided Q
decided-by to from (inl p) = inl (to p)
decided-by to from (inr not_so) = inr (λ q. not_so (from q))

-- what a test decides
decided-test : {P : Type 0} (r : Bool) → Decides r P → Decided P
decided-test true by = inl (by.0 refl)
decided-test false by = inr (λ p. false≢true (by.1 p))

-- a test itself
pub decided-true : (r : Bool) → Decided (r ≡ true)
decided-true true = inl refl
decided-true false = inr false≢true

-- equal numbers, and equal bytes
pub decided-nat : (m n : ℕ) → Decided (m ≡ n)
decided-nat m n = decided-test _ (Decides-eqb m n)

pub decided-bytes : (a b : List ℕ) → Decided (a ≡ b)
decided-bytes a b = decided-test _ (bytes_eq-Decides a b)

-- an order
pub decided-lt : (m n : ℕ) → Decided (m < n)
decided-lt m n = elim (cases_lt m n) [ inl lt ↦ inl lt | inr ge ↦ inr (λ lt. omega (arith, ge, lt)) ]

pub decided-le : (m n : ℕ) → Decided (m ≤ n)
decided-le m n = elim (cases_lt n m) [ inl lt ↦ inr (λ le. omega (arith, lt, le)) | inr ge ↦ inl ge ]

-- a fact of each element
pub decided-all : {X : Type 0} {P : X → Type 0} → ((x : X) → Decided (P x)) → (xs : List X)
    → Decided (AllByRecursion P xs)
decided-all d [] = inl tt
decided-all d (x ∷ xs) = decided-both (d x) (decided-all d xs)

-- equal lists
pub decided-list : {X : Type 0} → ((x y : X) → Decided (x ≡ y)) → (xs ys : List X) → Decided (xs ≡ ys)
decided-list d [] [] = inl refl
decided-list d [] (y ∷ ys) = inr (λ e. cc)
decided-list d (x ∷ xs) [] = inr (λ e. cc)
decided-list d (x ∷ xs) (y ∷ ys) = by (d x y) (decided-list d xs ys)
  where
    by : Decided (x ≡ y) → Decided (xs ≡ ys) → Decided (x ∷ xs ≡ y ∷ ys)
    by (inl e) (inl es) = inl (cc)
    by (inl e) (inr not_so) = inr (λ f. not_so (cc))
    by (inr not_so) es = inr (λ f. not_so (cc))

-- what an option holds, if anything
pub some-or-none : {X : Type 0} (o : Option X) → HasOrNone (λ x. o ≡ Some x)
some-or-none (Some x) = inl (x, refl)
some-or-none None = inr (λ x e. none-some x e)

-- an option that holds nothing
pub none-from : {X : Type 0} (o : Option X) → ((x : X) → o ≡ Some x → ⊥) → o ≡ None
none-from (Some x) not_so = absurd (not_so x refl)
none-from None not_so = refl
