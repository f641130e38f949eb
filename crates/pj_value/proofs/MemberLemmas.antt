-- Which values are in a list.
use Rattle.std.proofs.Common.{◌≡◌, ℕ, zero, suc, ◌<◌, Bool, true, false, ◌||◌, List, [], ◌∷◌, ◌++◌, length}
use Rattle.std.proofs.Common.{get_or, refl, sym, ap, subst, ◌∙◌, true≢false, arith, ◌⊎◌, inl, inr}
use Rattle.std.specs.List.{AllByRecursion, Contains}
use Rattle.std.specs.List.Sorted.{IsPermutation}
use Rattle.std.proofs.lemmas.Bool.{or_cases, or_left, or_right}
use Rattle.std.proofs.lemmas.List.Sorted.{Contains-permutation, IsPermutation-sym}
use Rattle.pj_value.specs.declared.value.Value.{Value}
use Rattle.pj_value.specs.Aggregates.{same_value, has_value}
use Rattle.pj_value.specs.Summaries.{HaveSameValues}
use Rattle.pj_value.proofs.ValueLemmas.{same_value-itself, same_value-equal}

-- ---- tests

or_assoc : (a b c : Bool) → (a || (b || c)) ≡ ((a || b) || c)
or_assoc true b c = refl
or_assoc false b c = refl

-- two tests of which each gives the other
pub same_tests : (a b : Bool) → (a ≡ true → b ≡ true) → (b ≡ true → a ≡ true) → a ≡ b
same_tests true b f g = sym (f refl)
same_tests false true f g = g refl
same_tests false false f g = refl

-- ---- values in a list

-- the first of a list, and another one
pub has_value-first : (v : Value) (vs : List Value) → has_value v (v ∷ vs) ≡ true
has_value-first v vs = or_left (same_value v v) (has_value v vs) (same_value-itself v)

pub has_value-later : (v w : Value) (vs : List Value) → has_value v vs ≡ true → has_value v (w ∷ vs) ≡ true
has_value-later v w vs h = or_right (same_value v w) (has_value v vs) h

-- what holds of the first and of the others
pub has_value-cases : (P : Value → Type 0) (w : Value) (vs : List Value) → P w
    → ((v : Value) → has_value v vs ≡ true → P v) → (v : Value) → has_value v (w ∷ vs) ≡ true → P v
has_value-cases P w vs p f v h = elim (or_cases (same_value v w) (has_value v vs) h) [
  | inl e ↦ subst P (sym (same_value-equal v w e)) p
  | inr k ↦ f v k
]

-- none is in an empty list
pub has_value-none : {P : Type 0} (v : Value) → has_value v [] ≡ true → P
has_value-none v h = absurd (true≢false (sym h))

-- in two lists one behind the other: in one of them
pub has_value-append : (v : Value) (vs ws : List Value)
    → has_value v (vs ++ ws) ≡ (has_value v vs || has_value v ws)
has_value-append v [] ws = refl
has_value-append v (w ∷ vs) ws =
    ap (λ b. same_value v w || b) (has_value-append v vs ws)
    ∙ or_assoc (same_value v w) (has_value v vs) (has_value v ws)

pub has_value-left : (v : Value) (vs ws : List Value) → has_value v vs ≡ true → has_value v (vs ++ ws) ≡ true
has_value-left v vs ws h = has_value-append v vs ws ∙ or_left (has_value v vs) (has_value v ws) h

pub has_value-right : (v : Value) (vs ws : List Value) → has_value v ws ≡ true → has_value v (vs ++ ws) ≡ true
has_value-right v vs ws h = has_value-append v vs ws ∙ or_right (has_value v vs) (has_value v ws) h

pub has_value-either : (v : Value) (vs ws : List Value) → has_value v (vs ++ ws) ≡ true
    → (has_value v vs ≡ true) ⊎ (has_value v ws ≡ true)
has_value-either v vs ws h = or_cases (has_value v vs) (has_value v ws) (sym (has_value-append v vs ws) ∙ h)

pub HaveSameValues-append : (vs vs' ws ws' : List Value) → HaveSameValues vs vs' → HaveSameValues ws ws'
    → HaveSameValues (vs ++ ws) (vs' ++ ws')
HaveSameValues-append vs vs' ws ws' s t v =
    has_value-append v vs ws ∙ (λ i. s v i || t v i) ∙ sym (has_value-append v vs' ws')

-- what holds of each item holds of each value in the list, and back
pub has_value-all : (P : Value → Type 0) (vs : List Value) → AllByRecursion P vs → (v : Value)
    → has_value v vs ≡ true → P v
has_value-all P [] a = λ v h. has_value-none v h
has_value-all P (w ∷ vs) a = has_value-cases P w vs a.0 (has_value-all P vs a.1)

pub all-has_value : (P : Value → Type 0) (vs : List Value) → ((v : Value) → has_value v vs ≡ true → P v)
    → AllByRecursion P vs
all-has_value P [] f = tt
all-has_value P (w ∷ vs) f =
    (f w (has_value-first w vs), all-has_value P vs (λ v h. f v (has_value-later v w vs h)))

-- ---- in another order

-- std's word for a value in a list
pub Contains-from_has_value : (v : Value) (vs : List Value) → has_value v vs ≡ true → Contains vs v
Contains-from_has_value v [] h = has_value-none v h
Contains-from_has_value v (w ∷ vs) h = elim (or_cases (same_value v w) (has_value v vs) h) [
  | inl e ↦ (0, omega arith, sym (same_value-equal v w e))
  | inr k ↦ let c = Contains-from_has_value v vs k in (suc c.0, omega arith, c.2)
]

has_value-at : (v : Value) (vs : List Value) (k : ℕ) → k < length vs → get_or vs k v ≡ v
    → has_value v vs ≡ true
has_value-at v [] k l e = absurd (omega arith)
has_value-at v (w ∷ vs) zero l e =
    or_left (same_value v w) (has_value v vs) (ap (same_value v) e ∙ same_value-itself v)
has_value-at v (w ∷ vs) (suc k) l e = has_value-later v w vs (has_value-at v vs k (omega arith) e)

pub has_value-from_Contains : (v : Value) (vs : List Value) → Contains vs v → has_value v vs ≡ true
has_value-from_Contains v vs c = has_value-at v vs c.0 c.1 c.2

-- the same values are in a list in another order
pub has_value-permutation : (vs ws : List Value) → IsPermutation vs ws → HaveSameValues vs ws
has_value-permutation vs ws p v =
    same_tests (has_value v vs) (has_value v ws) (half vs ws p) (half ws vs (IsPermutation-sym vs ws p))
  where
    half : (us ts : List Value) → IsPermutation us ts → has_value v us ≡ true → has_value v ts ≡ true
    half us ts q h =
        has_value-from_Contains v ts (Contains-permutation us ts v q (Contains-from_has_value v us h))
