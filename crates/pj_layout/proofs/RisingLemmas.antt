-- Numbers that never fall, and the last of them.
use Rattle.std.proofs.Common.{◌≡◌, ℕ, zero, suc, ◌+◌, ◌-◌, ◌<◌, ◌≤◌, true, false, List, [], ◌∷◌, length, get_or}
use Rattle.std.proofs.Common.{refl, sym, ap, subst, ◌∙◌, arith, add-one}
use Rattle.std.specs.Prelude.{◌==◌, nat_eq, nat_le, Bool, MatchBool}
use Rattle.std.specs.List.{AllByRecursion}
use Rattle.std.specs.List.Sorted.{IsNonDecreasing}
use Rattle.std.proofs.lemmas.Bool.{and_parts, and_from, and_left, and_right, leb-true, le-leb, lt-leb}
use Rattle.std.proofs.lemmas.Bool.{eqb-true, eq-eqb, ne_eqb}
use Rattle.pj_layout.specs.Damage.{never_fall, last_end, are_ends}

-- the next is no less, and those behind it never fall either
pub never_fall-next : (m n : ℕ) (ns : List ℕ) → never_fall (m ∷ n ∷ ns) ≡ true
    → (m ≤ n) × (never_fall (n ∷ ns) ≡ true)
never_fall-next m n ns h =
    let both = and_parts (nat_le m n) (never_fall (n ∷ ns)) h in (leb-true m n both.0, both.1)

pub last_end-above : (m : ℕ) (ns : List ℕ) → never_fall (m ∷ ns) ≡ true → m ≤ last_end m ns
last_end-above m [] h = omega arith
last_end-above m (n ∷ ns) h =
    let next = never_fall-next m n ns h in omega (arith, last_end-above n ns next.1, next.0)

-- ---- by their index

falls : (ns : List ℕ) (k : ℕ) → suc k < length ns → get_or ns (suc k) 0 < get_or ns k 0 → never_fall ns ≡ false
falls [] k l f = absurd (omega arith)
falls (m ∷ []) k l f = absurd (omega arith)
falls (m ∷ n ∷ ns) zero l f = and_left (nat_le m n) (never_fall (n ∷ ns)) (lt-leb m n f)
falls (m ∷ n ∷ ns) (suc k) l f =
    and_right (nat_le m n) (never_fall (n ∷ ns)) (falls (n ∷ ns) k (omega arith) f)

rises : (ns : List ℕ) → IsNonDecreasing ns → never_fall ns ≡ true
rises [] h = refl
rises (m ∷ []) h = refl
rises (m ∷ n ∷ ns) h =
    and_from (nat_le m n) (never_fall (n ∷ ns)) (le-leb m n (h 0 1 0 (omega arith) (omega arith)))
    (rises (n ∷ ns) (λ i j d l k. h (suc i) (suc j) d (omega arith) (omega arith)))

-- what a test of neighbours finds
pub never_fall-tested : (ns : List ℕ) (r : Bool)
    → MatchBool r (IsNonDecreasing ns)
    ((k : ℕ) × (k + 1 < length ns) × ((d : ℕ) → get_or ns (k + 1) d < get_or ns k d))
    → never_fall ns ≡ r
never_fall-tested ns true h = rises ns h
never_fall-tested ns false h =
    falls ns h.0 (omega (arith, h.1)) (subst (λ j. get_or ns j 0 < get_or ns h.0 0) (add-one h.0) (h.2 0))

-- ---- what a test of ends answers

pub are_ends-by_order : (ends : List ℕ) (len : ℕ) (r : Bool) → last_end 0 ends ≡ len → never_fall ends ≡ r
    → r ≡ are_ends ends len
are_ends-by_order ends len true e h =
    sym (and_from (never_fall ends) (last_end 0 ends == len) h (eq-eqb (last_end 0 ends) len e))
are_ends-by_order ends len false e h = sym (and_left (never_fall ends) (last_end 0 ends == len) h)

pub are_ends-by_last : (ends : List ℕ) (last len : ℕ) → last_end 0 ends ≡ last → (last ≡ len → ⊥)
    → nat_eq last len ≡ are_ends ends len
are_ends-by_last ends last len e h =
    ne_eqb last len h
    ∙ sym (and_right (never_fall ends) (last_end 0 ends == len) (ne_eqb (last_end 0 ends) len (λ f. h (sym e ∙ f))))

-- the last end by its index
pub last_end-by_index : (here : ℕ) (ends : List ℕ) → 0 < length ends
    → last_end here ends ≡ get_or ends (length ends - 1) 0
last_end-by_index here [] l = absurd (omega arith)
last_end-by_index here (end ∷ []) l = refl
last_end-by_index here (end ∷ next ∷ ends) l =
    let there : suc (suc (length ends)) - 1 ≡ suc (suc (length ends) - 1) = omega arith in
    last_end-by_index end (next ∷ ends) (omega arith)
    ∙ ap (λ n. get_or (end ∷ next ∷ ends) n 0) (sym there)

-- ---- ends that pass their tests

-- what the tests of ends say
never_fall-zero : (ends : List ℕ) → never_fall ends ≡ true → never_fall (0 ∷ ends) ≡ true
never_fall-zero [] h = refl
never_fall-zero (end ∷ ends) h = and_from (nat_le 0 end) (never_fall (end ∷ ends)) (le-leb 0 end (omega arith)) h

pub never_fall-tail : (m : ℕ) (ns : List ℕ) → never_fall (m ∷ ns) ≡ true → never_fall ns ≡ true
never_fall-tail m [] h = refl
never_fall-tail m (n ∷ ns) h = (and_parts (nat_le m n) (never_fall (n ∷ ns)) h).1

pub are_ends-parts : (ends : List ℕ) (len : ℕ) → are_ends ends len ≡ true
    → (never_fall (0 ∷ ends) ≡ true) × (last_end 0 ends ≡ len)
are_ends-parts ends len h =
    let both = and_parts (never_fall ends) (last_end 0 ends == len) h in
    (never_fall-zero ends both.0, eqb-true (last_end 0 ends) len both.1)

pub last_end-fit : (here : ℕ) (ends : List ℕ) → here < 18446744073709551616
    → AllByRecursion (λ n. n < 18446744073709551616) ends → last_end here ends < 18446744073709551616
last_end-fit here [] l a = l
last_end-fit here (end ∷ ends) l a = last_end-fit end ends a.0 a.1
