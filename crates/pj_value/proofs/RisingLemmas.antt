-- Lists of values that rise: which they are, and what is put behind, between and into them.
use Rattle.std.proofs.Common.{◌≡◌, ℕ, suc, ◌+◌, ◌<◌, true, List, [], ◌∷◌, ◌++◌, length}
use Rattle.std.proofs.Common.{get_or, take, drop, refl, sym, subst, ◌∙◌, arith, inl, inr}
use Rattle.std.proofs.Common.{take-append-drop}
use Rattle.std.specs.List.{insert}
use Rattle.std.specs.List.Sorted.{IsStrictlySortedBy}
use Rattle.std.specs.declared.cmp.Ordering.TheVariants.{Less}
use Rattle.std.proofs.lemmas.Bool.{or_cases}
use Rattle.pj_value.specs.declared.value.Value.{Value}
use Rattle.pj_value.specs.Order.{value_cmp}
use Rattle.pj_value.specs.Aggregates.{same_value, has_value}
use Rattle.pj_value.specs.Summaries.{Rises, HaveSameValues}
use Rattle.pj_value.proofs.OrderLemmas.{value_total}
use Rattle.pj_value.proofs.ValueLemmas.{same_value-equal, less_itself, less_both}
use Rattle.pj_value.proofs.MemberLemmas.{same_tests, has_value-first, has_value-later, has_value-cases}
use Rattle.pj_value.proofs.MemberLemmas.{has_value-none, has_value-left, has_value-right, has_value-either}
use Rattle.pj_value.proofs.MemberLemmas.{has_value-all, all-has_value}

-- the value is less than each of the list
abbrev pub IsBelow : Value → List Value → Type 0
IsBelow v vs = (u : Value) → has_value u vs ≡ true → value_cmp v u ≡ Less

-- each value of the first list is less than each of the second
abbrev pub AreBelow : List Value → List Value → Type 0
AreBelow vs ws = (v : Value) → has_value v vs ≡ true → IsBelow v ws

-- ---- the first value and the others

pub Rises-tail : (v : Value) (vs : List Value) → Rises (v ∷ vs) → Rises vs
Rises-tail v [] r = tt
Rises-tail v (w ∷ vs) r = r.1

pub Rises-head : (v : Value) (vs : List Value) → Rises (v ∷ vs) → IsBelow v vs
Rises-head v [] r = λ u h. has_value-none u h
Rises-head v (w ∷ vs) r =
    has_value-cases (λ u. value_cmp v u ≡ Less) w vs r.0
    (λ u h. value_total.trans v w u r.0 (Rises-head w vs r.1 u h))

pub Rises-cons : (v : Value) (vs : List Value) → IsBelow v vs → Rises vs → Rises (v ∷ vs)
Rises-cons v [] f r = tt
Rises-cons v (w ∷ vs) f r = (f w (has_value-first w vs), r)

-- ---- one list behind another

pub Rises-append : (vs ws : List Value) → Rises vs → Rises ws → AreBelow vs ws → Rises (vs ++ ws)
Rises-append [] ws r s f = s
Rises-append (v ∷ vs) ws r s f =
    Rises-cons v (vs ++ ws)
    (λ u h. elim (has_value-either u vs ws h) [
      | inl k ↦ Rises-head v vs r u k
      | inr k ↦ f v (has_value-first v vs) u k
    ])
    (Rises-append vs ws (Rises-tail v vs r) s (λ u h. f u (has_value-later u v vs h)))

pub Rises-left : (vs ws : List Value) → Rises (vs ++ ws) → Rises vs
Rises-left [] ws r = tt
Rises-left (v ∷ vs) ws r =
    Rises-cons v vs (λ u h. Rises-head v (vs ++ ws) r u (has_value-left u vs ws h))
    (Rises-left vs ws (Rises-tail v (vs ++ ws) r))

pub Rises-right : (vs ws : List Value) → Rises (vs ++ ws) → Rises ws
Rises-right [] ws r = r
Rises-right (v ∷ vs) ws r = Rises-right vs ws (Rises-tail v (vs ++ ws) r)

pub Rises-apart : (vs ws : List Value) → Rises (vs ++ ws) → AreBelow vs ws
Rises-apart [] ws r = λ v h. has_value-none v h
Rises-apart (v ∷ vs) ws r =
    has_value-cases (λ u. IsBelow u ws) v vs
    (λ u h. Rises-head v (vs ++ ws) r u (has_value-right u vs ws h))
    (Rises-apart vs ws (Rises-tail v (vs ++ ws) r))

-- one value more at the end
pub Rises-push : (vs : List Value) (v : Value) → Rises vs
    → ((u : Value) → has_value u vs ≡ true → value_cmp u v ≡ Less) → Rises (vs ++ v ∷ [])
Rises-push vs v r f =
    Rises-append vs (v ∷ []) r tt
    (λ u h. has_value-cases (λ w. value_cmp u w ≡ Less) v [] (f u h) (λ w k. has_value-none w k))

-- one value more in between
pub Rises-between : (vs ws : List Value) (v : Value) → Rises (vs ++ ws)
    → ((u : Value) → has_value u vs ≡ true → value_cmp u v ≡ Less) → IsBelow v ws → Rises (vs ++ v ∷ ws)
Rises-between vs ws v r f g =
    Rises-append vs (v ∷ ws) (Rises-left vs ws r) (Rises-cons v ws g (Rises-right vs ws r))
    (λ u h. has_value-cases (λ w. value_cmp u w ≡ Less) v ws (f u h) (Rises-apart vs ws r u h))

pub Rises-insert : (vs : List Value) (at : ℕ) (v : Value) → Rises vs
    → ((u : Value) → has_value u (take at vs) ≡ true → value_cmp u v ≡ Less) → IsBelow v (drop at vs)
    → Rises (insert vs at v)
Rises-insert vs at v r f g =
    Rises-between (take at vs) (drop at vs) v (subst Rises (sym (take-append-drop at vs)) r) f g

-- ---- other words for it

-- each value is less than the next, by indexes
pub Rises-from_neighbours : (vs : List Value)
    → ((k : ℕ) (d : Value) → k + 1 < length vs → value_cmp (get_or vs k d) (get_or vs (k + 1) d) ≡ Less)
    → Rises vs
Rises-from_neighbours [] f = tt
Rises-from_neighbours (v ∷ []) f = tt
Rises-from_neighbours (v ∷ w ∷ vs) f = (
  f 0 v (omega arith),
  Rises-from_neighbours (w ∷ vs) (λ k d l.
      let e : suc k + 1 ≡ suc (k + 1) = omega arith in
      rw e at (f (suc k) d (omega arith))),
)

-- each value is less than those behind it, as after a sort without repeats
pub Rises-from_sorted : (vs : List Value) → IsStrictlySortedBy value_cmp vs → Rises vs
unfolding IsStrictlySortedBy
Rises-from_sorted [] s = tt
Rises-from_sorted (v ∷ vs) s =
    Rises-cons v vs (has_value-all (λ u. value_cmp v u ≡ Less) vs s.0) (Rises-from_sorted vs s.1)

pub sorted-from_Rises : (vs : List Value) → Rises vs → IsStrictlySortedBy value_cmp vs
unfolding IsStrictlySortedBy
sorted-from_Rises [] r = tt
sorted-from_Rises (v ∷ vs) r = (
  all-has_value (λ u. value_cmp v u ≡ Less) vs (Rises-head v vs r),
  sorted-from_Rises vs (Rises-tail v vs r),
)

-- ---- the values determine the list

-- of two lists with the same values the first ones are the same
same-head : (v w : Value) (vs ws : List Value) → Rises (v ∷ vs) → Rises (w ∷ ws)
    → HaveSameValues (v ∷ vs) (w ∷ ws) → v ≡ w
same-head v w vs ws r s same =
    elim (or_cases (same_value v w) (has_value v ws) (sym (same v) ∙ has_value-first v vs)) [
      | inl e ↦ same_value-equal v w e
      | inr h ↦ elim (or_cases (same_value w v) (has_value w vs) (same w ∙ has_value-first w ws)) [
        | inl e ↦ sym (same_value-equal w v e)
        | inr k ↦ absurd (less_both v w (Rises-head v vs r w k) (Rises-head w ws s v h))
      ]
    ]

-- behind one first value the others are the same
half-tail : (v : Value) (vs ws : List Value) → Rises (v ∷ vs) → HaveSameValues (v ∷ vs) (v ∷ ws) → (u : Value)
    → has_value u vs ≡ true → has_value u ws ≡ true
half-tail v vs ws r same u h =
    elim (or_cases (same_value u v) (has_value u ws) (sym (same u) ∙ has_value-later u v vs h)) [
      | inl e ↦ absurd (less_itself v (subst (λ w. value_cmp v w ≡ Less) (same_value-equal u v e)
          (Rises-head v vs r u h)))
      | inr k ↦ k
    ]

-- two lists that rise and have the same values are equal
pub Rises-equal : (vs ws : List Value) → Rises vs → Rises ws → HaveSameValues vs ws → vs ≡ ws
Rises-equal [] [] r s same = refl
Rises-equal [] (w ∷ ws) r s same = has_value-none w (same w ∙ has_value-first w ws)
Rises-equal (v ∷ vs) [] r s same = has_value-none v (sym (same v) ∙ has_value-first v vs)
Rises-equal (v ∷ vs) (w ∷ ws) r s same =
    let e : v ≡ w = same-head v w vs ws r s same in
    let s' = subst (λ x. Rises (x ∷ ws)) (sym e) s in
    let same' = subst (λ x. HaveSameValues (v ∷ vs) (x ∷ ws)) (sym e) same in
    let tails : HaveSameValues vs ws =
    λ u. same_tests (has_value u vs) (has_value u ws) (half-tail v vs ws r same' u)
    (half-tail v ws vs s' (λ x. sym (same' x)) u) in
    λ i. e i ∷ Rises-equal vs ws (Rises-tail v vs r) (Rises-tail w ws s) tails i
