-- Lists with the same elements, by exchanges of neighbours.
use Rattle.std.proofs.Common.{◌≡◌, ℕ, zero, suc, ◌<◌, Bool, true, false, cond}
use Rattle.std.proofs.Common.{List, [], ◌∷◌, length, map, get_or, set, refl, ap, ◌∙◌, arith}
use Rattle.std.specs.List.{filter, swap}
use Rattle.std.specs.List.Sorted.{IsPermutation}
use Rattle.std.proofs.lemmas.List.Sorted.{IsPermutation-keeps, IsPermutation-refl, IsPermutation-cons}
use Rattle.std.proofs.lemmas.List.Sorted.{IsPermutation-trans, IsPermutation-swap}

-- the second list has the elements of the first
pub data Shuffle {X : Type 0} : List X → List X → Type 0 where
  none : Shuffle [] []
  keep : {x : X} {xs ys : List X} → Shuffle xs ys → Shuffle (x ∷ xs) (x ∷ ys)
  flip : {x y : X} {xs : List X} → Shuffle (x ∷ y ∷ xs) (y ∷ x ∷ xs)
  join : {xs ys zs : List X} → Shuffle xs ys → Shuffle ys zs → Shuffle xs zs

module _ {X : Type 0} where
  -- a list has its own elements
  pub same : (xs : List X) → Shuffle xs xs
  same [] = none
  same (x ∷ xs) = keep (same xs)

  -- the first element and another one are exchanged
  front-exchanged : (x : X) (xs : List X) (i : ℕ) (d : X) → i < length xs
      → Shuffle (x ∷ xs) (get_or xs i d ∷ set xs i x)
  front-exchanged x [] i d l = absurd (omega arith)
  front-exchanged x (y ∷ xs) zero d l = flip
  front-exchanged x (y ∷ xs) (suc i) d l =
      let rest = front-exchanged x xs i d (omega arith) in
      join flip (join (keep rest) flip)

  -- two elements are exchanged
  exchanged : (xs : List X) (i j : ℕ) (d : X) → i < length xs → j < length xs
      → Shuffle xs (set (set xs i (get_or xs j d)) j (get_or xs i d))
  exchanged [] i j d l m = absurd (omega arith)
  exchanged (x ∷ xs) zero zero d l m = same (x ∷ xs)
  exchanged (x ∷ xs) zero (suc j) d l m = front-exchanged x xs j d (omega arith)
  exchanged (x ∷ xs) (suc i) zero d l m = front-exchanged x xs i d (omega arith)
  exchanged (x ∷ xs) (suc i) (suc j) d l m = keep (exchanged xs i j d (omega arith) (omega arith))

  swapped : (xs : List X) (i j : ℕ) → i < length xs → j < length xs → Shuffle xs (swap xs i j)
  swapped [] i j l m = none
  swapped (x ∷ xs) i j l m = exchanged (x ∷ xs) i j x l m

  -- a permutation is reached so
  pub from_permutation : (xs ys : List X) → IsPermutation xs ys → Shuffle xs ys
  from_permutation xs ys p =
      IsPermutation-keeps xs (Shuffle xs) (same xs) (λ l i j a b s. join s (swapped l i j a b)) ys p

  -- what is reached so is a permutation
  pub permutation : {xs ys : List X} → Shuffle xs ys → IsPermutation xs ys
  permutation none = IsPermutation-refl []
  permutation (keep {x} {xs} {ys} s) = IsPermutation-cons x xs ys (permutation s)
  permutation (flip {x} {y} {xs}) =
      IsPermutation-swap (x ∷ y ∷ xs) (y ∷ x ∷ xs) 0 1 (omega arith) (omega arith) refl
  permutation (join {xs} {ys} {zs} s t) = IsPermutation-trans xs ys zs (permutation s) (permutation t)

  -- as many elements
  pub as_long : {xs ys : List X} → Shuffle xs ys → length xs ≡ length ys
  as_long none = refl
  as_long (keep s) = ap suc (as_long s)
  as_long flip = refl
  as_long (join s t) = as_long s ∙ as_long t

  -- a test that keeps the one on top keeps the lists beside it
  pub cond-keep : {xs ys : List X} (b : Bool) (x : X) → Shuffle xs ys
      → Shuffle (cond b (x ∷ xs) xs) (cond b (x ∷ ys) ys)
  cond-keep true x s = keep s
  cond-keep false x s = s

  -- two tests, one after the other
  pub cond-flip : (b c : Bool) (x y : X) (xs : List X)
      → Shuffle (cond b (x ∷ cond c (y ∷ xs) xs) (cond c (y ∷ xs) xs))
      (cond c (y ∷ cond b (x ∷ xs) xs) (cond b (x ∷ xs) xs))
  cond-flip true true x y xs = flip
  cond-flip true false x y xs = same (x ∷ xs)
  cond-flip false true x y xs = same (y ∷ xs)
  cond-flip false false x y xs = same xs

  -- what passes a test
  pub filtered : {xs ys : List X} (p : X → Bool) → Shuffle xs ys → Shuffle (filter p xs) (filter p ys)
  filtered p none = none
  filtered p (keep {x} s) = cond-keep (p x) x (filtered p s)
  filtered p (flip {x} {y} {xs}) = cond-flip (p x) (p y) x y (filter p xs)
  filtered p (join s t) = join (filtered p s) (filtered p t)

-- a function of each element
pub mapped : {X Y : Type 0} {xs ys : List X} (f : X → Y) → Shuffle xs ys → Shuffle (map f xs) (map f ys)
mapped f none = none
mapped f (keep s) = keep (mapped f s)
mapped f flip = flip
mapped f (join s t) = join (mapped f s) (mapped f t)
