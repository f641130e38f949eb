-- Facts about lists of values that are put together by a state.
use Rattle.std.proofs.Common.{◌≡◌, ℕ, zero, suc, true, List, [], ◌∷◌, ◌++◌, length, get_or, refl, sym, subst}
use Rattle.std.proofs.Common.{arith, inl, inr, true≢false}
use Rattle.std.specs.Ordering.{is_lt}
use Rattle.std.specs.declared.cmp.Ordering.{Ordering}
use Rattle.std.specs.declared.cmp.Ordering.TheVariants.{Less, Equal, Greater}
use Rattle.pj_value.specs.declared.value.Value.{Value}
use Rattle.pj_value.specs.Order.{value_cmp}
use Rattle.pj_value.specs.Aggregates.{has_value}
use Rattle.pj_value.specs.Summaries.{Rises, HaveSameValues}
use Rattle.pj_value.proofs.MemberLemmas.{same_tests, has_value-left, has_value-either, has_value-cases}
use Rattle.pj_value.proofs.MemberLemmas.{has_value-none}

-- an order whose test says less
pub Less-from_is_lt : (r : Ordering) → is_lt r ≡ true → r ≡ Less
Less-from_is_lt Less e = refl
Less-from_is_lt Equal e = absurd (true≢false (sym e))
Less-from_is_lt Greater e = absurd (true≢false (sym e))

-- a value that is there makes no difference
pub has_value-known : (v : Value) (vs : List Value) → has_value v vs ≡ true → HaveSameValues vs (vs ++ v ∷ [])
has_value-known v vs h u =
    same_tests (has_value u vs) (has_value u (vs ++ v ∷ [])) (has_value-left u vs (v ∷ []))
    (λ k. elim (has_value-either u vs (v ∷ []) k) [
      | inl e ↦ e
      | inr e ↦ has_value-cases (λ w. has_value w vs ≡ true) v [] h (λ w n. has_value-none w n) u e
    ])

-- one value more at the end, which is greater than the last
pub Rises-above : (vs : List Value) (k : ℕ) (w v : Value) → length vs ≡ suc k → w ≡ get_or vs k w
    → value_cmp w v ≡ Less → Rises vs → Rises (vs ++ v ∷ [])
Rises-above [] k w v l e f r = tt
Rises-above (x ∷ []) zero w v l e f r = (subst (λ y. value_cmp y v ≡ Less) e f, tt)
Rises-above (x ∷ []) (suc k) w v l e f r = absurd (omega arith)
Rises-above (x ∷ y ∷ vs) zero w v l e f r = absurd (omega arith)
Rises-above (x ∷ y ∷ vs) (suc k) w v l e f r = (r.0, Rises-above (y ∷ vs) k w v (omega arith) e f r.1)

-- and only such a one
pub Rises-last : (vs : List Value) (k : ℕ) (w v : Value) → length vs ≡ suc k → w ≡ get_or vs k w
    → Rises (vs ++ v ∷ []) → value_cmp w v ≡ Less
Rises-last [] k w v l e r = absurd (omega arith)
Rises-last (x ∷ []) zero w v l e r = subst (λ y. value_cmp y v ≡ Less) (sym e) r.0
Rises-last (x ∷ []) (suc k) w v l e r = absurd (omega arith)
Rises-last (x ∷ y ∷ vs) zero w v l e r = absurd (omega arith)
Rises-last (x ∷ y ∷ vs) (suc k) w v l e r = Rises-last (y ∷ vs) k w v (omega arith) e r.1
