-- Values that are kept in a vector: found by halves, sorted, and each left once.
use Rattle.std.proofs.Common.{◌≡◌, ℕ, zero, suc, ◌<◌, Bool, true, false, cond, ◌||◌, List, [], ◌∷◌}
use Rattle.std.proofs.Common.{length, map, get_or, take, Result, Ok, Err, refl, sym, ap, subst, ◌∙◌, arith, true≢false, inl, inr}
use Rattle.std.specs.List.{AllByRecursion, dedup, dedup_from}
use Rattle.std.specs.List.Sorted.{IsPermutation, IsSortedBy, IsStrictlySortedBy, IsBinarySearchResult, IsSearchInRange}
use Rattle.std.specs.Ordering.{is_eq, is_lt}
use Rattle.std.specs.Result.{is_ok}
use Rattle.std.specs.declared.cmp.Ordering.TheVariants.{Less, Equal}
use Rattle.std.specs.declared.cmp.Ordering.{Ordering}
use Rattle.std.proofs.lemmas.Bool.{or_left, or_cases}
use Rattle.std.proofs.lemmas.Cmp.{on_total}
use Rattle.std.proofs.lemmas.List.Sorted.{IsPermutation-map}
use Rattle.std.proofs.lemmas.List.Kept.{IsStrictlySortedBy-dedup}
use Rattle.pj_value.specs.declared.value.Value.{Value}
use Rattle.pj_value.specs.Aggregates.{same_value, has_value}
use Rattle.pj_value.specs.Order.{value_cmp}
use Rattle.pj_value.specs.Summaries.{Rises, HaveSameValues}
use Rattle.pj_value.proofs.OrderLemmas.{value_total}
use Rattle.pj_value.proofs.ValueLemmas.{value_exact, same_value-itself, same_value-equal}
use Rattle.pj_value.proofs.MemberLemmas.{has_value-later, has_value-permutation}
use Rattle.pj_value.proofs.RisingLemmas.{Rises-from_sorted}

module _ {X : Type 0} (value : X → Value) where
  -- ---- a search by halves

  found-at : (v : Value) (xs : List X) (i : ℕ) → i < length xs
      → ((d : X) → value_cmp (value (get_or xs i d)) v ≡ Equal) → has_value v (map value xs) ≡ true
  found-at v [] i l h = absurd (omega arith)
  found-at v (x ∷ xs) zero l h =
      or_left (same_value v (value x)) (has_value v (map value xs))
      (subst (λ w. same_value v w ≡ true) (sym (value_exact (value x) v (h x))) (same_value-itself v))
  found-at v (x ∷ xs) (suc i) l h =
      has_value-later v (value x) (map value xs) (found-at v xs i (omega arith) h)

  -- a value that is found is there
  pub found : (v : Value) (xs : List X) (r : Result ℕ ℕ) → IsSearchInRange r (length xs)
      → IsBinarySearchResult (λ x. value_cmp (value x) v) xs r → is_ok r ≡ true
      → has_value v (map value xs) ≡ true
  found v xs (Ok i) l h e = found-at v xs i l h
  found v xs (Err i) l h e = absurd (true≢false (sym e))

  -- a value that stands at an index is there
  pub found-there : (v : Value) (xs : List X) (i : ℕ) (x : X) → i < length xs → x ≡ get_or xs i x
      → same_value (value x) v ≡ true → has_value v (map value xs) ≡ true
  found-there v [] i x l e h = absurd (omega arith)
  found-there v (y ∷ xs) zero x l e h =
      or_left (same_value v (value y)) (has_value v (map value xs))
      (subst (λ w. same_value v w ≡ true) (sym (same_value-equal (value x) v h) ∙ ap value e)
      (same_value-itself v))
  found-there v (y ∷ xs) (suc i) x l e h =
      has_value-later v (value y) (map value xs) (found-there v xs i x (omega arith) e h)

  -- and is so among more
  pub has_value-take : (v : Value) (n : ℕ) (xs : List X) → has_value v (map value (take n xs)) ≡ true
      → has_value v (map value xs) ≡ true
  has_value-take v zero xs h = absurd (true≢false (sym h))
  has_value-take v (suc n) [] h = h
  has_value-take v (suc n) (x ∷ xs) h =
      elim (or_cases (same_value v (value x)) (has_value v (map value (take n xs))) h) [
        | inl e ↦ or_left (same_value v (value x)) (has_value v (map value xs)) e
        | inr k ↦ has_value-later v (value x) (map value xs) (has_value-take v n xs k)
      ]

  -- ---- sorted, and each left once

  -- how what stands for two values stands
  abbrev pub order : X → X → Ordering
  order x y = value_cmp (value x) (value y)

  abbrev pub same : X → X → Bool
  same x y = is_eq (value_cmp (value x) (value y))

  has_value-dedup_from : (u : Value) (k : X) (xs : List X)
      → has_value u (map value (dedup_from same k xs)) ≡ (same_value u (value k) || has_value u (map value xs))
  has_value-dedup_from u k [] = refl
  has_value-dedup_from u k (x ∷ xs) =
      from (same x k) refl (has_value-dedup_from u k xs) (has_value-dedup_from u x xs)
    where
      again : (a b : Bool) → (a || b) ≡ (a || (a || b))
      again true b = refl
      again false b = refl

      from : (b : Bool) → same x k ≡ b
          → has_value u (map value (dedup_from same k xs)) ≡ (same_value u (value k) || has_value u (map value xs))
          → has_value u (map value (dedup_from same x xs)) ≡ (same_value u (value x) || has_value u (map value xs))
          → has_value u (map value (cond b (dedup_from same k xs) (k ∷ dedup_from same x xs)))
          ≡ (same_value u (value k) || (same_value u (value x) || has_value u (map value xs)))
      from true e kept next =
          kept ∙ again (same_value u (value k)) (has_value u (map value xs))
          ∙ ap (λ w. same_value u (value k) || (same_value u w || has_value u (map value xs)))
          (sym (same_value-equal (value x) (value k) e))
      from false e kept next = ap (λ b. same_value u (value k) || b) next

  pub dedup-same : (xs : List X) → HaveSameValues (map value (dedup same xs)) (map value xs)
  dedup-same [] = λ u. refl
  dedup-same (x ∷ xs) = λ u. has_value-dedup_from u x xs

  pub permutation-same : (xs ys : List X) → IsPermutation xs ys → HaveSameValues (map value ys) (map value xs)
  permutation-same xs ys p =
      λ u. sym (has_value-permutation (map value xs) (map value ys) (IsPermutation-map value xs ys p) u)

  Rises-strictly : (xs : List X) → IsStrictlySortedBy order xs → IsStrictlySortedBy value_cmp (map value xs)
  unfolding IsStrictlySortedBy
  Rises-strictly [] s = tt
  Rises-strictly (x ∷ xs) s = (each xs s.0, Rises-strictly xs s.1)
    where
      each : (ys : List X) → AllByRecursion (λ y. order x y ≡ Less) ys
          → AllByRecursion (λ v. value_cmp (value x) v ≡ Less) (map value ys)
      each [] a = tt
      each (y ∷ ys) a = (a.0, each ys a.1)

  -- values that were sorted rise once each is left once
  pub Rises-dedup : (xs : List X) → IsSortedBy (λ x y. is_lt (order x y)) xs
      → Rises (map value (dedup same xs))
  Rises-dedup xs up =
      Rises-from_sorted (map value (dedup same xs))
      (Rises-strictly (dedup same xs)
      (IsStrictlySortedBy-dedup (on_total value value_total) (λ x y. refl) xs up))
