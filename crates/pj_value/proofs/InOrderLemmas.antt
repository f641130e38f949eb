-- Each value of a list once, in order.
use Rattle.std.proofs.Common.{◌≡◌, ℕ, suc, Bool, true, false, ◌||◌, List, [], ◌∷◌, length}
use Rattle.std.proofs.Common.{refl, sym, ap, ◌∙◌}
use Rattle.std.specs.Prelude.{if◌then◌else◌}
use Rattle.std.specs.declared.cmp.Ordering.{Ordering}
use Rattle.std.specs.declared.cmp.Ordering.TheVariants.{Less, Equal, Greater}
use Rattle.std.specs.Ordering.{is_eq, ordering_reverse}
use Rattle.std.proofs.lemmas.Bool.{false_from_ne_true}
use Rattle.pj_value.specs.declared.value.Value.{Value}
use Rattle.pj_value.specs.Order.{value_cmp}
use Rattle.pj_value.specs.Aggregates.{same_value, has_value, distinct}
use Rattle.pj_value.specs.Summaries.{Rises}
use Rattle.pj_value.proofs.OrderLemmas.{value_total}
use Rattle.pj_value.proofs.ValueLemmas.{value_exact, less_itself, less_both}
use Rattle.pj_value.proofs.MemberLemmas.{has_value-cases}
use Rattle.pj_value.proofs.RisingLemmas.{IsBelow, Rises-head, Rises-tail, Rises-cons}

-- a value beside the first of a list, by how it stands to it
abbrev placed : Ordering → Value → Value → List Value → List Value → List Value
placed Less v w ws rest = v ∷ w ∷ ws
placed Equal v w ws rest = w ∷ ws
placed Greater v w ws rest = w ∷ rest

-- the list with the value in its place, where it isn't there
abbrev pub with_value : Value → List Value → List Value
with_value v [] = v ∷ []
with_value v (w ∷ ws) = placed (value_cmp v w) v w ws (with_value v ws)

-- the values of a list, each once and in order
abbrev pub in_order : List Value → List Value
in_order [] = []
in_order (v ∷ vs) = with_value v (in_order vs)

-- ---- which values are in it

or_again : (a b : Bool) → (a || b) ≡ (a || (a || b))
or_again true b = refl
or_again false b = refl

or_flip : (a b c : Bool) → (a || (b || c)) ≡ (b || (a || c))
or_flip true true c = refl
or_flip true false c = refl
or_flip false b c = refl

pub has_value-with_value : (u v : Value) (ws : List Value)
    → has_value u (with_value v ws) ≡ (same_value u v || has_value u ws)
has_value-with_value u v [] = refl
has_value-with_value u v (w ∷ ws) = from (value_cmp v w) refl (has_value-with_value u v ws)
  where
    from : (r : Ordering) → value_cmp v w ≡ r
        → has_value u (with_value v ws) ≡ (same_value u v || has_value u ws)
        → has_value u (placed r v w ws (with_value v ws))
        ≡ (same_value u v || (same_value u w || has_value u ws))
    from Less e rest = refl
    from Equal e rest =
        or_again (same_value u w) (has_value u ws)
        ∙ ap (λ x. same_value u x || (same_value u w || has_value u ws)) (sym (value_exact v w e))
    from Greater e rest =
        ap (λ b. same_value u w || b) rest ∙ or_flip (same_value u w) (same_value u v) (has_value u ws)

pub has_value-in_order : (u : Value) (vs : List Value) → has_value u (in_order vs) ≡ has_value u vs
has_value-in_order u [] = refl
has_value-in_order u (v ∷ vs) =
    has_value-with_value u v (in_order vs) ∙ ap (λ b. same_value u v || b) (has_value-in_order u vs)

-- ---- it rises

above : (v w : Value) → value_cmp v w ≡ Greater → value_cmp w v ≡ Less
above v w e = value_total.antisymm w v ∙ ap ordering_reverse e

pub Rises-with_value : (v : Value) (ws : List Value) → Rises ws → Rises (with_value v ws)
Rises-with_value v [] r = tt
Rises-with_value v (w ∷ ws) r =
    from (value_cmp v w) refl (Rises-with_value v ws (Rises-tail w ws r))
  where
    below : value_cmp w v ≡ Less → IsBelow w (with_value v ws)
    below l u h =
        has_value-cases (λ x. value_cmp w x ≡ Less) v ws l (Rises-head w ws r) u
        (sym (has_value-with_value u v ws) ∙ h)

    from : (s : Ordering) → value_cmp v w ≡ s → Rises (with_value v ws)
        → Rises (placed s v w ws (with_value v ws))
    from Less e rest = (e, r)
    from Equal e rest = r
    from Greater e rest = Rises-cons w (with_value v ws) (below (above v w e)) rest

pub Rises-in_order : (vs : List Value) → Rises (in_order vs)
Rises-in_order [] = tt
Rises-in_order (v ∷ vs) = Rises-with_value v (in_order vs) (Rises-in_order vs)

-- ---- how long it is

-- a value before the first of a list that rises isn't in it
not_in : (v w : Value) (ws : List Value) → Rises (w ∷ ws) → value_cmp v w ≡ Less
    → has_value v (w ∷ ws) ≡ false
not_in v w ws r l =
    false_from_ne_true (has_value v (w ∷ ws))
    (λ h. has_value-cases (λ u. value_cmp u w ≡ Less → ⊥) w ws (less_itself w)
    (λ u k m. less_both u w m (Rises-head w ws r u k)) v h l)

pub length-with_value : (v : Value) (ws : List Value) → Rises ws
    → length (with_value v ws) ≡ (if has_value v ws then length ws else suc (length ws))
length-with_value v [] r = refl
length-with_value v (w ∷ ws) r =
    from (value_cmp v w) refl (length-with_value v ws (Rises-tail w ws r))
  where
    more : (b : Bool) (n : ℕ) → suc (if b then n else suc n) ≡ (if b then suc n else suc (suc n))
    more true n = refl
    more false n = refl

    from : (s : Ordering) → value_cmp v w ≡ s
        → length (with_value v ws) ≡ (if has_value v ws then length ws else suc (length ws))
        → length (placed s v w ws (with_value v ws))
        ≡ (if has_value v (w ∷ ws) then suc (length ws) else suc (suc (length ws)))
    from Less e rest =
        ap (λ (b : Bool). if b then suc (length ws) else suc (suc (length ws))) (sym (not_in v w ws r e))
    from Equal e rest =
        ap (λ t. if (is_eq t || has_value v ws) then suc (length ws) else suc (suc (length ws))) (sym e)
    from Greater e rest =
        ap suc rest ∙ more (has_value v ws) (length ws)
        ∙ ap (λ t. if (is_eq t || has_value v ws) then suc (length ws) else suc (suc (length ws))) (sym e)

-- as long as the list with each value once
pub length-in_order : (vs : List Value) → length (in_order vs) ≡ length (distinct vs)
length-in_order [] = refl
length-in_order (v ∷ vs) =
    length-with_value v (in_order vs) (Rises-in_order vs)
    ∙ ap (λ (b : Bool). if b then length (in_order vs) else suc (length (in_order vs)))
    (has_value-in_order v vs)
    ∙ by (has_value v vs) (length-in_order vs)
  where
    by : (b : Bool) → length (in_order vs) ≡ length (distinct vs)
        → (if b then length (in_order vs) else suc (length (in_order vs)))
        ≡ length (if b then distinct vs else v ∷ distinct vs)
    by true e = e
    by false e = ap suc e
