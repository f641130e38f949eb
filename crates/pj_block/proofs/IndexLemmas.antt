-- The indexes of the rows that are kept.
use Rattle.std.proofs.Common.{◌≡◌, ℕ, zero, suc, ◌+◌, ◌<◌, Bool, true, false, cond, List, [], ◌∷◌}
use Rattle.std.proofs.Common.{◌++◌, length, map, get_or}
use Rattle.std.proofs.Common.{refl, sym, ap, ◌∙◌, arith, append_assoc}
use Rattle.std.specs.List.{filter, range_with_len, All}
use Rattle.std.proofs.lemmas.List.{append-nil, get_or_at, get_or-map, length-map, length_push, map-id}
use Rattle.std.proofs.lemmas.List.FromFn.{map-range_with_len_more, filter_of_map_range_with_len_more}
use Rattle.std.proofs.lemmas.List.FromFn.{length-range_with_len, get_or-range_with_len}
use Rattle.std.proofs.lemmas.List.Elements.{All-filter, All-from_get_or}

indexes_more : (p : ℕ → Bool) (n : ℕ)
    → filter p (range_with_len 0 (n + 1)) ≡ filter p (range_with_len 0 n) ++ cond (p n) (n ∷ []) []
indexes_more p n =
    sym (ap (filter p) (map-id (range_with_len 0 (n + 1))))
    ∙ filter_of_map_range_with_len_more p (λ k. k) 0 n n (omega arith)
    ∙ ap (λ ks. filter p ks ++ cond (p n) (n ∷ []) []) (map-id (range_with_len 0 n))

-- one more index, which passes
pub indexes_kept : (p : ℕ → Bool) (n : ℕ) → p n ≡ true
    → filter p (range_with_len 0 (n + 1)) ≡ filter p (range_with_len 0 n) ++ n ∷ []
indexes_kept p n h = indexes_more p n ∙ ap (λ b. filter p (range_with_len 0 n) ++ cond b (n ∷ []) []) h

-- one more index, which doesn't
pub indexes_left : (p : ℕ → Bool) (n : ℕ) → p n ≡ false
    → filter p (range_with_len 0 (n + 1)) ≡ filter p (range_with_len 0 n)
indexes_left p n h =
    indexes_more p n ∙ ap (λ b. filter p (range_with_len 0 n) ++ cond b (n ∷ []) []) h
    ∙ append-nil (filter p (range_with_len 0 n))

-- tests that agree at the indexes keep the same ones
pub filter-same : (p q : ℕ → Bool) (at n : ℕ) → ((k : ℕ) → k < at + n → p k ≡ q k)
    → filter p (range_with_len at n) ≡ filter q (range_with_len at n)
filter-same p q at zero h = refl
filter-same p q at (suc n) h =
    rw (h at (omega arith), filter-same p q (at + 1) n (λ k l. h k (omega arith)))

-- a test of each element, and of its index
pub indexes-map : {X : Type 0} (f : X → Bool) (xs : List X) (d : X) (bs : List Bool) → bs ≡ map f xs
    → filter (λ at. get_or bs at false) (range_with_len 0 (length bs))
    ≡ filter (λ at. f (get_or xs at d)) (range_with_len 0 (length xs))
indexes-map f xs d bs e =
    rw (e, length-map xs f)
    (filter-same (λ at. get_or (map f xs) at false) (λ at. f (get_or xs at d)) 0 (length xs)
    (λ k l. get_or-map f xs k d false (omega arith)))

-- one more element, where it passes
joined : {X : Type 0} (g : ℕ → X) (b : Bool) (at : ℕ) (x : X) (ks : List ℕ) (ys : List X) → g at ≡ x
    → map g ks ≡ ys
    → map g (cond b (at ∷ ks) ks) ≡ cond b (x ∷ ys) ys
joined g true at x ks ys e f = rw (e, f)
joined g false at x ks ys e f = f

-- the elements at the indexes that pass
from : {X : Type 0} (p : X → Bool) (d : X) (front xs : List X) (at : ℕ) → length front ≡ at
    → map (λ k. get_or (front ++ xs) k d)
    (filter (λ k. p (get_or (front ++ xs) k d)) (range_with_len at (length xs)))
    ≡ filter p xs
from p d front [] at e = refl
from p d front (x ∷ xs) at e =
    let all = front ++ x ∷ xs in
    let here : get_or all at d ≡ x = get_or_at front x xs d at e in
    let moved : (front ++ x ∷ []) ++ xs ≡ all = append_assoc front (x ∷ []) xs in
    let long : length (front ++ x ∷ []) ≡ at + 1 = length_push front x ∙ ap (λ k. k + 1) e in
    let ks = filter (λ k. p (get_or all k d)) (range_with_len (at + 1) (length xs)) in
    let rest : map (λ k. get_or all k d) ks ≡ filter p xs =
    rw moved at (from p d (front ++ x ∷ []) xs (at + 1) long) in
    ap (λ y. map (λ k. get_or all k d) (cond (p y) (at ∷ ks) ks)) here
    ∙ joined (λ k. get_or all k d) (p x) at x ks (filter p xs) here rest

pub kept-indexes : {X : Type 0} (p : X → Bool) (d : X) (xs : List X)
    → map (λ k. get_or xs k d) (filter (λ k. p (get_or xs k d)) (range_with_len 0 (length xs))) ≡ filter p xs
kept-indexes p d xs = from p d [] xs 0 refl

-- each index is one of the list
pub indexes-within : (p : ℕ → Bool) (n : ℕ) → All (λ k. k < n) (filter p (range_with_len 0 n))
indexes-within p n =
    All-filter p (λ k. k < n) (range_with_len 0 n)
    (All-from_get_or (λ k. k < n) (range_with_len 0 n) 0
    (λ i l. let m : i < n = omega (arith, length-range_with_len 0 n, l) in rw
    (get_or-range_with_len 0 n i 0 m) (omega arith)))

-- the indexes of one row more
pub range_more : (n : ℕ) → range_with_len 0 (n + 1) ≡ range_with_len 0 n ++ n ∷ []
range_more n =
    sym (map-id (range_with_len 0 (n + 1))) ∙ map-range_with_len_more (λ k. k) 0 n n (omega arith)
    ∙ ap (λ ks. ks ++ n ∷ []) (map-id (range_with_len 0 n))
