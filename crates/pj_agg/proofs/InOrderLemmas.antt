-- Each value of a list once, in order.
use Rattle.std.proofs.Common.{◌≡◌, Bool, true, false, ◌||◌, List, [], ◌∷◌, map}
use Rattle.std.proofs.Common.{refl, sym, ap, ◌∙◌}
use Rattle.std.specs.List.{AllByRecursion}
use Rattle.std.specs.declared.cmp.Ordering.{Ordering}
use Rattle.std.specs.declared.cmp.Ordering.TheVariants.{Less, Equal, Greater}
use Rattle.std.specs.Ordering.{ordering_reverse, match_ordering}
use Rattle.pj_value.specs.declared.value.Kind.{Kind}
use Rattle.pj_value.specs.declared.value.Value.{Value}
use Rattle.pj_value.specs.Values.{kind_of, Fits}
use Rattle.pj_value.specs.Order.{value_cmp}
use Rattle.pj_value.specs.Aggregates.{same_value, has_value}
use Rattle.pj_value.specs.Summaries.{Rises, HaveSameValues, IsOfKind}
use Rattle.pj_value.proofs.OrderLemmas.{value_total}
use Rattle.pj_agg.specs.InOrder.{put_in_order, in_order}
use Rattle.pj_value.proofs.ValueLemmas.{value_exact}
use Rattle.pj_value.proofs.MemberLemmas.{has_value-cases, has_value-all, all-has_value}
use Rattle.pj_value.proofs.RisingLemmas.{IsBelow, Rises-head, Rises-tail, Rises-cons, Rises-equal}

-- ---- which values are in it

or_again : (a b : Bool) → (a || b) ≡ (a || (a || b))
or_again true b = refl
or_again false b = refl

or_flip : (a b c : Bool) → (a || (b || c)) ≡ (b || (a || c))
or_flip true true c = refl
or_flip true false c = refl
or_flip false b c = refl

pub has_value-put_in_order : (u v : Value) (ws : List Value)
    → has_value u (put_in_order v ws) ≡ (same_value u v || has_value u ws)
has_value-put_in_order u v [] = refl
has_value-put_in_order u v (w ∷ ws) = from (value_cmp v w) refl (has_value-put_in_order u v ws)
  where
    from : (r : Ordering) → value_cmp v w ≡ r
        → has_value u (put_in_order v ws) ≡ (same_value u v || has_value u ws)
        → has_value u (match_ordering r (v ∷ w ∷ ws) (w ∷ ws) (w ∷ put_in_order v ws))
        ≡ (same_value u v || (same_value u w || has_value u ws))
    from Less e rest = refl
    from Equal e rest =
        or_again (same_value u w) (has_value u ws)
        ∙ ap (λ x. same_value u x || (same_value u w || has_value u ws)) (sym (value_exact v w e))
    from Greater e rest =
        ap (λ b. same_value u w || b) rest ∙ or_flip (same_value u w) (same_value u v) (has_value u ws)

pub has_value-in_order : (u : Value) (vs : List Value) → has_value u (in_order vs) ≡ has_value u vs
has_value-in_order u [] = refl
has_value-in_order u (v ∷ vs) =
    has_value-put_in_order u v (in_order vs) ∙ ap (λ b. same_value u v || b) (has_value-in_order u vs)

-- ---- it rises

above : (v w : Value) → value_cmp v w ≡ Greater → value_cmp w v ≡ Less
above v w e = value_total.antisymm w v ∙ ap ordering_reverse e

pub Rises-put_in_order : (v : Value) (ws : List Value) → Rises ws → Rises (put_in_order v ws)
Rises-put_in_order v [] r = tt
Rises-put_in_order v (w ∷ ws) r =
    from (value_cmp v w) refl (Rises-put_in_order v ws (Rises-tail w ws r))
  where
    below : value_cmp w v ≡ Less → IsBelow w (put_in_order v ws)
    below l u h =
        has_value-cases (λ x. value_cmp w x ≡ Less) v ws l (Rises-head w ws r) u
        (sym (has_value-put_in_order u v ws) ∙ h)

    from : (s : Ordering) → value_cmp v w ≡ s → Rises (put_in_order v ws)
        → Rises (match_ordering s (v ∷ w ∷ ws) (w ∷ ws) (w ∷ put_in_order v ws))
    from Less e rest = (e, r)
    from Equal e rest = r
    from Greater e rest = Rises-cons w (put_in_order v ws) (below (above v w e)) rest

pub Rises-in_order : (vs : List Value) → Rises (in_order vs)
Rises-in_order [] = tt
Rises-in_order (v ∷ vs) = Rises-put_in_order v (in_order vs) (Rises-in_order vs)

-- ---- what determines it

-- the same values have one order
pub in_order-same : (vs ws : List Value) → HaveSameValues vs ws → in_order vs ≡ in_order ws
in_order-same vs ws s =
    Rises-equal (in_order vs) (in_order ws) (Rises-in_order vs) (Rises-in_order ws)
    (λ u. has_value-in_order u vs ∙ s u ∙ sym (has_value-in_order u ws))

-- values that rise are in order
pub in_order-rising : (vs : List Value) → Rises vs → in_order vs ≡ vs
in_order-rising vs r = Rises-equal (in_order vs) vs (Rises-in_order vs) r (λ u. has_value-in_order u vs)

-- what holds of each value holds of each in order
pub all-in_order : (P : Value → Type 0) (vs : List Value) → AllByRecursion P vs
    → AllByRecursion P (in_order vs)
all-in_order P vs a =
    all-has_value P (in_order vs) (λ u h. has_value-all P vs a u (sym (has_value-in_order u vs) ∙ h))

-- ---- what stands for values

-- what has the same values as a list stands for it
pub stands-in_order : (held vs : List Value) → HaveSameValues held vs
    → Rises (in_order held) × HaveSameValues (in_order held) vs
stands-in_order held vs s = (Rises-in_order held, λ u. has_value-in_order u held ∙ s u)

-- and back
pub same-in_order : (held vs : List Value) → Rises (in_order held) × HaveSameValues (in_order held) vs
    → HaveSameValues held vs
same-in_order held vs h = λ u. sym (has_value-in_order u held) ∙ h.1 u

-- ---- values of one kind

module _ {X : Type 0} (value : X → Value) (kind : Kind) (law : (x : X) → kind_of (value x) ≡ kind) where
  each-of_kind : (xs : List X) → AllByRecursion (λ v. kind_of v ≡ kind) (map value xs)
  each-of_kind [] = tt
  each-of_kind (x ∷ xs) = (law x, each-of_kind xs)

  -- values in order are of the kind that all are of
  pub in_order-of_kind : (xs : List X) → AllByRecursion Fits (in_order (map value xs))
      → AllByRecursion (IsOfKind kind) (in_order (map value xs))
  in_order-of_kind xs f =
      both (in_order (map value xs)) (all-in_order (λ v. kind_of v ≡ kind) (map value xs) (each-of_kind xs)) f
    where
      both : (vs : List Value) → AllByRecursion (λ v. kind_of v ≡ kind) vs → AllByRecursion Fits vs
          → AllByRecursion (IsOfKind kind) vs
      both [] k f = tt
      both (v ∷ vs) k f = ((k.0, f.0), both vs k.1 f.1)
