-- The elements of a list once each, by a test that decides equality.
use Rattle.std.proofs.Common.{◌≡◌, Bool, true, false, ◌||◌, List, [], ◌∷◌, ◌⊎◌, inl, inr}
use Rattle.std.proofs.Common.{refl, sym, ap, ◌∙◌, subst, true≢false}
use Rattle.std.specs.Prelude.{if◌then◌else◌}
use Rattle.std.proofs.lemmas.Bool.{cases_Bool, false_from_ne_true}
use Rattle.std.specs.List.{AllByRecursion, IsDistinct}
use Rattle.pj_answer.proofs.Shuffles.{Shuffle, none, keep, flip, join, same}

-- the test holds of equal elements alone
pub record DecidesEqual {X : Type 0} (test : X → X → Bool) : Type 0 where
  pub itself : (x : X) → test x x ≡ true
  pub equal : (x y : X) → test x y ≡ true → x ≡ y

-- the element is in the list
abbrev pub has : {X : Type 0} → (X → X → Bool) → X → List X → Bool
has test x [] = false
has test x (y ∷ ys) = test x y || has test x ys

-- each element once
abbrev pub once : {X : Type 0} → (X → X → Bool) → List X → List X
once test [] = []
once test (x ∷ xs) = if has test x xs then once test xs else x ∷ once test xs

-- neither holds where none of the two does
or_false : (a b : Bool) → (a || b) ≡ false → (a ≡ false) × (b ≡ false)
or_false true b e = absurd (true≢false e)
or_false false b e = (refl, e)

-- either of the first two may hold first
or-flip : (a b c : Bool) → (a || (b || c)) ≡ (b || (a || c))
or-flip true true c = refl
or-flip true false c = refl
or-flip false true c = refl
or-flip false false c = refl

-- either way the lists beside it keep their elements
if-keep : {X : Type 0} {us vs : List X} (b : Bool) (x : X) → Shuffle us vs
    → Shuffle (if b then us else x ∷ us) (if b then vs else x ∷ vs)
if-keep true x s = s
if-keep false x s = keep s

-- two tests, one after the other
if-flip : {X : Type 0} (b c : Bool) (x y : X) (us : List X)
    → Shuffle (if b then (if c then us else y ∷ us) else x ∷ (if c then us else y ∷ us))
    (if c then (if b then us else x ∷ us) else y ∷ (if b then us else x ∷ us))
if-flip true true x y us = same us
if-flip true false x y us = same (y ∷ us)
if-flip false true x y us = same (x ∷ us)
if-flip false false x y us = flip

-- the same, where the first of two that differ is also looked for in front of the other
if-flip-apart : {X : Type 0} (t u b c : Bool) (x y : X) (us : List X) → t ≡ false → u ≡ false
    → Shuffle (if (t || b) then (if c then us else y ∷ us) else x ∷ (if c then us else y ∷ us))
    (if (u || c) then (if b then us else x ∷ us) else y ∷ (if b then us else x ∷ us))
if-flip-apart true u b c x y us h k = absurd (true≢false h)
if-flip-apart false true b c x y us h k = absurd (true≢false k)
if-flip-apart false false b c x y us h k = if-flip b c x y us

module _ {X : Type 0} (test : X → X → Bool) (decides : DecidesEqual test) where
  -- the test looks alike from both sides
  back : (x y : X) → test x y ≡ false → test y x ≡ false
  back x y h = false_from_ne_true (test y x)
      (λ e. true≢false (sym (decides.itself x) ∙ ap (test x) (sym (decides.equal y x e)) ∙ h))

  -- the same elements are in both lists
  pub has-shuffled : {xs ys : List X} (x : X) → Shuffle xs ys → has test x xs ≡ has test x ys
  has-shuffled x none = refl
  has-shuffled x (keep {x = y} s) = ap (λ b. test x y || b) (has-shuffled x s)
  has-shuffled x (flip {x = y} {y = z} {xs}) = or-flip (test x y) (test x z) (has test x xs)
  has-shuffled x (join s t) = has-shuffled x s ∙ has-shuffled x t

  -- the elements once each, where the first two change indexes
  once-flip : (x y : X) (xs : List X) → (test x y ≡ true) ⊎ (test x y ≡ false)
      → Shuffle (once test (x ∷ y ∷ xs)) (once test (y ∷ x ∷ xs))
  once-flip x y xs (inl e) =
      subst (λ z. Shuffle (once test (x ∷ z ∷ xs)) (once test (z ∷ x ∷ xs))) (decides.equal x y e) (same _)
  once-flip x y xs (inr e) =
      if-flip-apart (test x y) (test y x) (has test x xs) (has test y xs) x y (once test xs) e (back x y e)

  -- the elements once each, with one more element
  once-keep : (x : X) (xs ys : List X) → has test x xs ≡ has test x ys → Shuffle (once test xs) (once test ys)
      → Shuffle (once test (x ∷ xs)) (once test (x ∷ ys))
  once-keep x xs ys e s =
      subst (λ b. Shuffle (once test (x ∷ xs)) (if b then once test ys else x ∷ once test ys)) e
      (if-keep (has test x xs) x s)

  -- lists with the same elements have them once each alike
  pub once-shuffled : {xs ys : List X} → Shuffle xs ys → Shuffle (once test xs) (once test ys)
  once-shuffled none = none
  once-shuffled (keep {x} {xs} {ys} s) = once-keep x xs ys (has-shuffled x s) (once-shuffled s)
  once-shuffled (flip {x} {y} {xs}) = once-flip x y xs (cases_Bool (test x y))
  once-shuffled (join s t) = join (once-shuffled s) (once-shuffled t)

  -- an element is in the list of the elements once each where it is in the list
  pub has-once : (x : X) (xs : List X) → has test x (once test xs) ≡ has test x xs
  has-once x [] = refl
  has-once x (y ∷ ys) = by (has-once x ys) (has test y ys) refl
    where
      within : (c : Bool) → test x y ≡ c → has test y ys ≡ true → has test x ys ≡ (c || has test x ys)
      within false f e = refl
      within true f e = ap (λ z. has test z ys) (decides.equal x y f) ∙ e

      by : has test x (once test ys) ≡ has test x ys → (b : Bool) → has test y ys ≡ b
          → has test x (if b then once test ys else y ∷ once test ys) ≡ (test x y || has test x ys)
      by rest false e = ap (λ c. test x y || c) rest
      by rest true e = rest ∙ within (test x y) refl e

  -- an element that isn't in a list is the same as none of it
  apart : (x : X) (xs : List X) → has test x xs ≡ false → AllByRecursion (λ y. test x y ≡ false) xs
  apart x [] e = tt
  apart x (y ∷ ys) e =
      let neither = or_false (test x y) (has test x ys) e in
      (neither.0, apart x ys neither.1)

  -- no two of the elements once each are the same
  pub IsDistinct-once : (xs : List X) → IsDistinct test (once test xs)
  unfolding IsDistinct
  IsDistinct-once [] = tt
  IsDistinct-once (x ∷ xs) = by (IsDistinct-once xs) (has test x xs) refl
    where
      by : IsDistinct test (once test xs) → (b : Bool) → has test x xs ≡ b
          → IsDistinct test (if b then once test xs else x ∷ once test xs)
      by rest true e = rest
      by rest false e = (apart x (once test xs) (has-once x xs ∙ e), rest)
