-- The least and the greatest of values, by what they are: in the list, and behind none of it.
use Rattle.std.proofs.Common.{◌≡◌, Bool, true, false, List, [], ◌∷◌, ◌++◌, append-nil, append_assoc}
use Rattle.std.proofs.Common.{refl, sym, ap, subst, ◌∙◌, true≢false, ◌⊎◌, inl, inr}
use Rattle.std.specs.Prelude.{Option, Some, None, fold, if◌then◌else◌}
use Rattle.std.specs.declared.cmp.Ordering.{Ordering}
use Rattle.std.specs.declared.cmp.Ordering.TheVariants.{Less, Equal, Greater}
use Rattle.std.specs.Ordering.{is_lt, is_gt, ordering_reverse, flip_args}
use Rattle.std.specs.Cmp.{IsTotalOrder}
use Rattle.std.specs.FinMap.{IsAntisymmetric}
use Rattle.std.proofs.lemmas.Cmp.{upto, tied_itself, back_total}
use Rattle.pj_value.specs.declared.value.Value.{Value}
use Rattle.pj_value.specs.Order.{value_cmp}
use Rattle.pj_value.specs.Aggregates.{has_value, lesser, greater}
use Rattle.pj_value.specs.Summaries.{HaveSameValues, extreme_of}
use Rattle.pj_value.proofs.OrderLemmas.{value_total}
use Rattle.pj_value.proofs.ValueLemmas.{value_exact, value_exact_back}
use Rattle.pj_value.proofs.MemberLemmas.{has_value-first, has_value-cases, has_value-none}
use Rattle.pj_value.proofs.MemberLemmas.{has_value-either, has_value-left, has_value-right}

-- the one of two that stands first in an order
abbrev pub first_of_two : (Value → Value → Ordering) → Value → Value → Value
first_of_two cmp a b = if is_lt (cmp b a) then b else a

-- the choice of two, where there are any
abbrev pub chosen : (Value → Value → Value) → Option Value → Option Value → Option Value
chosen choose None b = b
chosen choose (Some a) None = Some a
chosen choose (Some a) (Some b) = Some (choose a b)

module _ (cmp : Value → Value → Ordering) (total : IsTotalOrder cmp) (exact : IsAntisymmetric cmp) where
  -- the first isn't behind the second
  abbrev IsUpTo : Value → Value → Type 0
  IsUpTo v w = is_gt (cmp v w) ≡ false

  -- neither is behind the other
  level : (r s : Ordering) → r ≡ ordering_reverse s → is_gt r ≡ false → is_gt s ≡ false → r ≡ Equal
  level r Less e h k = absurd (true≢false (sym (ap is_gt e) ∙ h))
  level r Equal e h k = e
  level r Greater e h k = absurd (true≢false k)

  IsUpTo-both : (v w : Value) → IsUpTo v w → IsUpTo w v → v ≡ w
  IsUpTo-both v w h k = exact v w (level (cmp v w) (cmp w v) (total.antisymm v w) h k)

  IsUpTo-itself : (v : Value) → IsUpTo v v
  IsUpTo-itself v = ap is_gt (tied_itself total v)

  -- where one is before the other, and where it isn't
  before : (r s : Ordering) → s ≡ ordering_reverse r → is_lt r ≡ true → is_gt r ≡ false
  before Less s e h = refl
  before Equal s e h = absurd (true≢false (sym h))
  before Greater s e h = absurd (true≢false (sym h))

  behind : (r s : Ordering) → s ≡ ordering_reverse r → is_lt r ≡ false → is_gt s ≡ false
  behind Less s e h = absurd (true≢false h)
  behind Equal s e h = ap is_gt e
  behind Greater s e h = ap is_gt e

  -- the first of two is up to each of them, and one of them
  record IsFirst (m a b : Value) : Type 0 where
    left : IsUpTo m a
    right : IsUpTo m b
    one : (m ≡ a) ⊎ (m ≡ b)

  IsFirst-first_of_two : (a b : Value) → IsFirst (first_of_two cmp a b) a b
  IsFirst-first_of_two a b = by (is_lt (cmp b a)) refl
    where
      by : (t : Bool) → is_lt (cmp b a) ≡ t → IsFirst (if t then b else a) a b
      by true e = record {
        left = before (cmp b a) (cmp a b) (total.antisymm a b) e;
        right = IsUpTo-itself b;
        one = inr refl;
      }
      by false e = record {
        left = IsUpTo-itself a;
        right = behind (cmp b a) (cmp a b) (total.antisymm a b) e;
        one = inl refl;
      }

  -- ---- the first of values

  -- a value of the list that is up to each of it
  record IsExtreme (m : Value) (vs : List Value) : Type 0 where
    has : has_value m vs ≡ true
    upto_all : (v : Value) → has_value v vs ≡ true → IsUpTo m v

  -- lists with the same values have one
  one_extreme : (m n : Value) (vs ws : List Value) → IsExtreme m vs → IsExtreme n ws → HaveSameValues vs ws
      → m ≡ n
  one_extreme m n vs ws a b s =
      IsUpTo-both m n (a.upto_all n (s n ∙ b.has)) (b.upto_all m (sym (s m) ∙ a.has))

  -- the first of two lists, by the first of each
  extreme-append : (m n : Value) (vs ws : List Value) → IsExtreme m vs → IsExtreme n ws
      → IsExtreme (first_of_two cmp m n) (vs ++ ws)
  extreme-append m n vs ws a b =
      let f = IsFirst-first_of_two m n in
      record {
        has = elim f.one [
          | inl e ↦ subst (λ u. has_value u (vs ++ ws) ≡ true) (sym e) (has_value-left m vs ws a.has)
          | inr e ↦ subst (λ u. has_value u (vs ++ ws) ≡ true) (sym e) (has_value-right n vs ws b.has)
        ];
        upto_all = λ v h. elim (has_value-either v vs ws h) [
          | inl k ↦ upto total (first_of_two cmp m n) m v f.left (a.upto_all v k)
          | inr k ↦ upto total (first_of_two cmp m n) n v f.right (b.upto_all v k)
        ];
      }

  -- of one value
  extreme-one : (v : Value) → IsExtreme v (v ∷ [])
  extreme-one v = record {
    has = has_value-first v [];
    upto_all = has_value-cases (IsUpTo v) v [] (IsUpTo-itself v) (λ u h. has_value-none u h);
  }

  -- a choice of two along the list finds it
  extreme-fold : (m : Value) (vs ws : List Value) → IsExtreme m vs
      → IsExtreme (fold (first_of_two cmp) m ws) (vs ++ ws)
  extreme-fold m vs [] a = subst (IsExtreme m) (sym (append-nil vs)) a
  extreme-fold m vs (w ∷ ws) a =
      subst (IsExtreme (fold (first_of_two cmp) (first_of_two cmp m w) ws)) (append_assoc vs (w ∷ []) ws)
      (extreme-fold (first_of_two cmp m w) (vs ++ w ∷ []) ws
      (extreme-append m w vs (w ∷ []) a (extreme-one w)))

  fold-extreme : (v : Value) (vs : List Value) → IsExtreme (fold (first_of_two cmp) v vs) (v ∷ vs)
  fold-extreme v vs = extreme-fold v (v ∷ []) vs (extreme-one v)

  -- it goes by the values in the list alone
  pub first-same : (vs ws : List Value) → HaveSameValues vs ws
      → extreme_of (first_of_two cmp) vs ≡ extreme_of (first_of_two cmp) ws
  first-same [] [] s = refl
  first-same [] (w ∷ ws) s = absurd (true≢false (sym (has_value-first w ws) ∙ sym (s w)))
  first-same (v ∷ vs) [] s = absurd (true≢false (sym (has_value-first v vs) ∙ s v))
  first-same (v ∷ vs) (w ∷ ws) s =
      ap (λ m. Some m) (one_extreme _ _ (v ∷ vs) (w ∷ ws) (fold-extreme v vs) (fold-extreme w ws) s)

  -- of two lists one behind the other
  pub first-append : (vs ws : List Value) → extreme_of (first_of_two cmp) (vs ++ ws)
      ≡ chosen (first_of_two cmp) (extreme_of (first_of_two cmp) vs) (extreme_of (first_of_two cmp) ws)
  first-append [] ws = refl
  first-append (v ∷ vs) [] = ap (extreme_of (first_of_two cmp)) (append-nil (v ∷ vs))
  first-append (v ∷ vs) (w ∷ ws) =
      ap (λ m. Some m)
      (one_extreme _ _ ((v ∷ vs) ++ w ∷ ws) ((v ∷ vs) ++ w ∷ ws) (fold-extreme v (vs ++ w ∷ ws))
      (extreme-append _ _ (v ∷ vs) (w ∷ ws) (fold-extreme v vs) (fold-extreme w ws)) (λ u. refl))

  -- it is in the list
  pub first-in : (v : Value) (vs : List Value) → has_value (fold (first_of_two cmp) v vs) (v ∷ vs) ≡ true
  first-in v vs = (fold-extreme v vs).has

-- ---- the least and the greatest

pub least-same : (vs ws : List Value) → HaveSameValues vs ws → extreme_of lesser vs ≡ extreme_of lesser ws
least-same = first-same value_cmp value_total value_exact

pub greatest-same : (vs ws : List Value) → HaveSameValues vs ws
    → extreme_of greater vs ≡ extreme_of greater ws
greatest-same = first-same (flip_args value_cmp) (back_total value_total) value_exact_back

pub least-append : (vs ws : List Value)
    → extreme_of lesser (vs ++ ws) ≡ chosen lesser (extreme_of lesser vs) (extreme_of lesser ws)
least-append = first-append value_cmp value_total value_exact

pub greatest-append : (vs ws : List Value)
    → extreme_of greater (vs ++ ws) ≡ chosen greater (extreme_of greater vs) (extreme_of greater ws)
greatest-append = first-append (flip_args value_cmp) (back_total value_total) value_exact_back

pub least-in : (v : Value) (vs : List Value) → has_value (fold lesser v vs) (v ∷ vs) ≡ true
least-in = first-in value_cmp value_total value_exact

pub greatest-in : (v : Value) (vs : List Value) → has_value (fold greater v vs) (v ∷ vs) ≡ true
greatest-in = first-in (flip_args value_cmp) (back_total value_total) value_exact_back
