-- Live parts stay in order, and a pin is given up alone.
use Rattle.std.proofs.Common.{◌≡◌, ℕ, ◌<◌, ◌≤◌, Bool, true, false, List, [], ◌∷◌, ◌++◌, map, refl, cond, arith}
use Rattle.std.specs.Prelude.{filter}
use Rattle.std.proofs.lemmas.List.{append-nil, append_assoc, map-append}
use Rattle.std.proofs.lemmas.List.Elements.{All-push}
use Rattle.std.proofs.lemmas.List.Quantifiers.{all_pairs_push}
use Rattle.pj_part.specs.declared.part.Part.{Part}
use Rattle.pj_partset.specs.declared.set.Pin.{Pin}
use Rattle.pj_partset.specs.PinLayout.{pinned_in}
use Rattle.pj_partset.specs.Sets.{AreInOrder, IsNext, AreNext, AreBefore}

-- what is kept of values is the values of what is kept
pub filter-map : {X Y : Type 0} (f : X → Y) (test : Y → Bool) (xs : List X)
    → filter test (map f xs) ≡ map f (filter (λ x. test (f x)) xs)
filter-map f test [] = refl
filter-map {X} f test (x ∷ xs) = rw (filter-map f test xs) (by_test (test (f x)))
  where
    by_test : (b : Bool) → cond b (f x ∷ map f (filter (λ y. test (f y)) xs)) (map f (filter (λ y. test (f y)) xs))
        ≡ map f (cond b (x ∷ filter (λ y. test (f y)) xs) (filter (λ y. test (f y)) xs))
    by_test true = refl
    by_test false = refl

module _ {B : Type 0} where
  -- one more part
  pub AreInOrder-push : (live : List (Part B)) (part : Part B) → AreInOrder live → IsNext live part
      → AreInOrder (live ++ part ∷ [])
  AreInOrder-push live part order next = record {
    each = All-push (λ p. p.min ≤ p.max) live part order.each (omega (arith, next.one));
    apart = all_pairs_push (λ p q. p.max < q.min) live part order.apart (λ k d lt. next.above k d lt);
  }

  -- all of them
  pub AreInOrder-append : (live fresh : List (Part B)) → AreInOrder live → AreNext live fresh
      → AreInOrder (live ++ fresh)
  AreInOrder-append live [] order next = rw (append-nil live) order
  AreInOrder-append live (part ∷ parts) order next =
      let rest = AreInOrder-append (live ++ part ∷ []) parts (AreInOrder-push live part order next.0) next.1 in
      rw (append_assoc live (part ∷ []) parts) at rest

  -- one more pin
  pub AreBefore-push : (next more : ℕ) (pins new : List (Pin B)) (pin : Pin B) → AreBefore next (map pinned_in pins)
      → pin.number ≡ next → next < more → new ≡ pins ++ pin ∷ [] → AreBefore more (map pinned_in new)
  AreBefore-push next more pins new pin before number less made =
      rw (made, map-append pinned_in pins (pin ∷ []))
      (All-push (λ p. p.number < more) (map pinned_in pins) (pinned_in pin)
      (λ k d lt. omega (arith, before k d lt, less)) (omega (arith, number, less)))
