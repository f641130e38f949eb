-- Lists that are mapped, and tests of their elements.
use Rattle.std.proofs.Common.{◌≡◌, ◌⊎◌, inl, inr, ℕ, Bool, true, false, ◌&&◌, ◌||◌, cond}
use Rattle.std.proofs.Common.{List, [], ◌∷◌, map, Contains, refl, ap, ◌∙◌, arith}
use Rattle.std.specs.List.{AllByRecursion, filter, list_any}
use Rattle.std.proofs.lemmas.Bool.{false≢true}
use Rattle.std.proofs.lemmas.List.{get_or-map, length-map}

-- ---- tests

-- one of both holds
pub either : (a b : Bool) → (a || b) ≡ true → (a ≡ true) ⊎ (b ≡ true)
either true b e = inl refl
either false b e = inr e

-- the first holds
pub or-first : (a b : Bool) → a ≡ true → (a || b) ≡ true
or-first true b e = refl
or-first false b e = absurd (false≢true e)

-- the second holds
pub or-second : (a b : Bool) → b ≡ true → (a || b) ≡ true
or-second true b e = refl
or-second false b e = e

-- the first of both
pub both-first : (a b : Bool) → (a && b) ≡ true → a ≡ true
both-first true b e = refl
both-first false b e = e

-- the second of both
pub both-second : (a b : Bool) → (a && b) ≡ true → b ≡ true
both-second true b e = e
both-second false b e = absurd (false≢true e)

-- what follows of an element that passes follows of a list where one passes
pub from_any : {X Z : Type 0} (p : X → Bool) (P : X → Type 0) → ((x : X) → P x → p x ≡ true → Z)
    → (xs : List X) → AllByRecursion P xs → list_any p xs ≡ true → Z
from_any p P h [] all e = absurd (false≢true e)
from_any p P h (x ∷ xs) all e =
    elim (either (p x) (list_any p xs) e) [ inl f ↦ h x all.0 f | inr f ↦ from_any p P h xs all.1 f ]

-- what follows where an element of a list passes a test of that name follows for each element
pub each_of_any : {X : Type 0} (p : ℕ → X → Bool) (G : ℕ → Type 0) (xs : List X)
    → ((c : ℕ) → list_any (p c) xs ≡ true → G c)
    → AllByRecursion (λ x. (c : ℕ) → p c x ≡ true → G c) xs
each_of_any p G [] h = tt
each_of_any p G (x ∷ xs) h = (
  λ c e. h c (or-first (p c x) (list_any (p c) xs) e),
  each_of_any p G xs (λ c e. h c (or-second (p c x) (list_any (p c) xs) e)),
)

-- ---- mapped lists

-- two functions that agree
pub map-same : {X Y : Type 0} (f g : X → Y) → ((x : X) → f x ≡ g x) → (xs : List X) → map f xs ≡ map g xs
map-same f g agree [] = refl
map-same f g agree (x ∷ xs) = λ i. agree x i ∷ map-same f g agree xs i

-- elements that are kept after they were mapped are those that are mapped after they were kept
pub filter-mapped : {X Y : Type 0} (p : Y → Bool) (q : X → Bool) (f : X → Y) → ((x : X) → p (f x) ≡ q x)
    → (xs : List X) → filter p (map f xs) ≡ map f (filter q xs)
filter-mapped p q f agree [] = refl
filter-mapped p q f agree (x ∷ xs) =
    (λ i. cond (agree x i) (f x ∷ filter-mapped p q f agree xs i) (filter-mapped p q f agree xs i))
    ∙ by (q x)
  where
    by : (b : Bool) → cond b (f x ∷ map f (filter q xs)) (map f (filter q xs))
        ≡ map f (cond b (x ∷ filter q xs) (filter q xs))
    by true = refl
    by false = refl

-- a test of mapped elements
pub list_any-mapped : {X Y : Type 0} (p : Y → Bool) (q : X → Bool) (f : X → Y) → ((x : X) → p (f x) ≡ q x)
    → (xs : List X) → list_any p (map f xs) ≡ list_any q xs
list_any-mapped p q f agree [] = refl
list_any-mapped p q f agree (x ∷ xs) = λ i. agree x i || list_any-mapped p q f agree xs i

-- a fact of each element, and so of each mapped one
pub all-mapped : {X Y : Type 0} (P : X → Type 0) (Q : Y → Type 0) (f : X → Y) → ((x : X) → P x → Q (f x))
    → (xs : List X) → AllByRecursion P xs → AllByRecursion Q (map f xs)
all-mapped P Q f h [] all = tt
all-mapped P Q f h (x ∷ xs) all = (h x all.0, all-mapped P Q f h xs all.1)

-- both facts of each element
pub all-both : {X : Type 0} (P Q : X → Type 0) (xs : List X) → AllByRecursion P xs → AllByRecursion Q xs
    → AllByRecursion (λ x. P x × Q x) xs
all-both P Q [] a b = tt
all-both P Q (x ∷ xs) a b = ((a.0, b.0), all-both P Q xs a.1 b.1)

-- an element of a list, mapped
pub Contains-mapped : {X Y : Type 0} (f : X → Y) (xs : List X) (x : X) → Contains xs x
    → Contains (map f xs) (f x)
Contains-mapped f xs x (k, within, is) =
    (k, omega (arith, within, length-map xs f), get_or-map f xs k x (f x) within ∙ ap f is)
