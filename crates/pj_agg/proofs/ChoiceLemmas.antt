-- The least and the greatest value of lists that are put one behind the other.
use Rattle.std.proofs.Common.{◌≡◌, Bool, true, false, cond, List, [], ◌∷◌, ◌++◌, Option, Some, None}
use Rattle.std.proofs.Common.{refl, sym, ap, ◌∙◌, true≢false}
use Rattle.std.proofs.lemmas.List.{append-nil}
use Rattle.std.specs.List.{fold}
use Rattle.std.specs.Option.{IfSome}
use Rattle.std.specs.Ordering.{is_lt}
use Rattle.std.specs.Cmp.{IsStrictWeakOrder}
use Rattle.std.proofs.lemmas.List.Sums.{fold-append}
use Rattle.std.proofs.lemmas.List.Sorted.{ranks_by, IsStrictWeakOrder-flip}
use Rattle.pj_value.specs.declared.value.AggKind.TheVariants as aggregates
use Rattle.pj_value.specs.declared.value.Kind.{Kind}
use Rattle.pj_value.specs.declared.value.Value.{Value}
use Rattle.pj_value.specs.Aggregates.{lesser, greater}
use Rattle.pj_value.specs.Order.{value_cmp}
use Rattle.pj_value.specs.Summaries.{Extreme, extreme_of, IsOfKind, IsSummary}
use Rattle.pj_value.proofs.OrderLemmas.{value_total}
use Rattle.pj_agg.specs.States.{with_either}

-- ---- a choice of two, by an order

module _ (lt : Value → Value → Bool) (o : IsStrictWeakOrder lt) where
  abbrev choice : Value → Value → Value
  choice a b = cond (lt b a) b a

  -- which two of three are chosen from first makes no difference
  choice-cases : (a b c : Value) (p q r : Bool) → lt b a ≡ p → lt c b ≡ q → lt c a ≡ r
      → choice (choice a b) c ≡ choice a (choice b c)
  choice-cases a b c true true true e f g = simp (e, f, g)
  choice-cases a b c true true false e f g =
      absurd (true≢false (sym f ∙ o.chain c a b g (o.one_way b a e)))
  choice-cases a b c true false r e f g = simp (e, f)
  choice-cases a b c false true r e f g = simp (e, f)
  choice-cases a b c false false r e f g = simp (e, f, o.chain c b a f e)

  choice-assoc : (a b c : Value) → choice (choice a b) c ≡ choice a (choice b c)
  choice-assoc a b c = choice-cases a b c (lt b a) (lt c b) (lt c a) refl refl refl

pub lesser-assoc : (a b c : Value) → lesser (lesser a b) c ≡ lesser a (lesser b c)
lesser-assoc a b c =
    choice-assoc (λ x y. is_lt (value_cmp x y)) (ranks_by value_total (λ (v : Value). v)) a b c

pub greater-assoc : (a b c : Value) → greater (greater a b) c ≡ greater a (greater b c)
greater-assoc a b c =
    choice-assoc (λ x y. is_lt (value_cmp y x))
    (IsStrictWeakOrder-flip (λ x y. is_lt (value_cmp x y)) (ranks_by value_total (λ (v : Value). v))) a b c

-- ---- all of a list

module _ (choose : Value → Value → Value) (assoc : (a b c : Value) → choose (choose a b) c ≡ choose a (choose b c)) where
  fold-choose : (a w : Value) (ws : List Value) → fold choose (choose a w) ws ≡ choose a (fold choose w ws)
  fold-choose a w [] = refl
  fold-choose a w (x ∷ ws) =
      ap (λ v. fold choose v ws) (assoc a w x) ∙ fold-choose a (choose w x) ws

  -- what is chosen of two lists is chosen from what is chosen of each
  pub extreme_of-append : (vs ws : List Value)
      → extreme_of choose (vs ++ ws) ≡ with_either choose (extreme_of choose vs) (extreme_of choose ws)
  extreme_of-append [] [] = refl
  extreme_of-append [] (w ∷ ws) = refl
  extreme_of-append (v ∷ vs) [] = ap (λ us. Some (fold choose v us)) (append-nil vs)
  extreme_of-append (v ∷ vs) (w ∷ ws) =
      ap Some (fold-append choose v vs (w ∷ ws) ∙ fold-choose (fold choose v vs) w ws)

-- ---- what is kept

-- a value of the kind, where there is one, is a summary
pub whole-least : (kind : Kind) (found : Option Value) → IfSome found (IsOfKind kind)
    → IsSummary aggregates.Min kind (Extreme found)
whole-least kind None h = tt
whole-least kind (Some v) h = h

pub whole-greatest : (kind : Kind) (found : Option Value) → IfSome found (IsOfKind kind)
    → IsSummary aggregates.Max kind (Extreme found)
whole-greatest kind None h = tt
whole-greatest kind (Some v) h = h
