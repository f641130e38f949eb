-- What a side of the range takes of bounds: of none, of one, and of two lists one behind the other.
use Rattle.std.proofs.Common.{◌≡◌, List, [], ◌∷◌, ◌++◌, append-nil, refl, sym, ap, ◌∙◌}
use Rattle.std.specs.Prelude.{Bool, true, Option, Some, None, fold}
use Rattle.pj_value.specs.declared.value.Value.{Value}
use Rattle.pj_value.specs.Summaries.{extreme_of}
use Rattle.pj_value.proofs.ExtremeLemmas.{least-append, greatest-append}
use Rattle.pj_expr.specs.declared.expr.Expr.{Expr}
use Rattle.pj_expr.specs.declared.cond.Op.{Op}
use Rattle.pj_match.specs.declared.sides.Side.{Side}
use Rattle.pj_match.specs.declared.sides.Side.TheVariants as sides
use Rattle.pj_match.specs.Ranges.{Bound, bound_by, former, AreLiterals, none, on, off, IsChosen}
use Rattle.pj_match.specs.Sides.{serves, choice, either}

-- ---- the choice along a list

-- the first of a list stays
former-stays : (v : Value) (vs : List Value) → fold former v vs ≡ v
former-stays v [] = refl
former-stays v (w ∷ vs) = former-stays v vs

extreme_of-append : (side : Side) (vs ws : List Value)
    → extreme_of (choice side) (vs ++ ws)
    ≡ either side (extreme_of (choice side) vs) (extreme_of (choice side) ws)
extreme_of-append side [] ws = refl
extreme_of-append side (v ∷ vs) [] = ap (extreme_of (choice side)) (append-nil (v ∷ vs))
extreme_of-append sides.Both (v ∷ vs) (w ∷ ws) =
    ap (λ u. Some u) (former-stays v (vs ++ w ∷ ws) ∙ sym (former-stays v vs))
extreme_of-append sides.Low (v ∷ vs) (w ∷ ws) = greatest-append (v ∷ vs) (w ∷ ws)
extreme_of-append sides.High (v ∷ vs) (w ∷ ws) = least-append (v ∷ vs) (w ∷ ws)

-- ---- the literals of bounds

-- of two lists one behind the other
literals-append : {among : Op → Bool} {c : Expr} {xs ys : List Bound} {vs ws : List Value}
    → AreLiterals among c xs vs → AreLiterals among c ys ws → AreLiterals among c (xs ++ ys) (vs ++ ws)
literals-append none k = k
literals-append (on i h) k = on i (literals-append h k)
literals-append (off n h) k = off n (literals-append h k)

-- ---- what is chosen

module _ (side : Side) (c : Expr) where
  -- what the side takes of these bounds
  abbrev Takes : List Bound → Option Value → Type 0
  Takes all found = IsChosen (serves side) (choice side) c all found

  -- of none
  pub takes-none : Takes [] None
  takes-none = record { literals = []; are = none; is = refl }

  -- of two lists one behind the other
  pub takes-append : (xs ys : List Bound) (a b : Option Value) → Takes xs a → Takes ys b
      → Takes (xs ++ ys) (either side a b)
  takes-append xs ys a b p q = record {
    literals = p.literals ++ q.literals;
    are = literals-append p.are q.are;
    is = (λ i. either side (p.is i) (q.is i)) ∙ sym (extreme_of-append side p.literals q.literals);
  }

  -- of a comparison that the side takes
  pub takes-on : (left : Expr) (op : Op) (found : Option Value) → serves side op ≡ true → left ≡ c
      → Takes (bound_by left op found) found
  takes-on left op None served same = takes-none
  takes-on left op (Some v) served same = record {
    literals = v ∷ [];
    are = on (record { same = same; chosen = served }) none;
    is = refl;
  }

  -- and of one that it doesn't take
  pub takes-off : (left : Expr) (op : Op) (found : Option Value) → (serves side op ≡ true → left ≡ c → ⊥)
      → Takes (bound_by left op found) None
  takes-off left op None n = takes-none
  takes-off left op (Some v) n = record {
    literals = [];
    are = off (λ i. n i.chosen i.same) none;
    is = refl;
  }
