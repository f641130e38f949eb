-- The first indexes in an order, found without sorting all.
use Rattle.std.proofs.Common.{◌≡◌, ℕ, zero, suc, ◌+◌, ◌-◌, ◌≤◌, Bool, true, false, not, cond}
use Rattle.std.proofs.Common.{List, [], ◌∷◌, ◌++◌, length, get_or, take, drop, Option, Some, None}
use Rattle.std.proofs.Common.{refl, sym, ap, ◌∙◌, arith, subst, true≢false, append_assoc}
use Rattle.std.specs.Cmp.{IsStrictWeakOrder}
use Rattle.std.specs.List.{All, Contains, count_by, slice_get}
use Rattle.std.specs.List.Sorted.{IsPermutation, IsSortedBy}
use Rattle.std.specs.Option.{IfSome, IsSomeAnd}
use Rattle.std.proofs.lemmas.List.{append-nil, take-append-drop, take-append-le, take_all, length-take}
use Rattle.std.proofs.lemmas.List.{length-drop}
use Rattle.std.proofs.lemmas.List.Elements.{All-nil, All-cons, All-head, All-tail, All-append, All-push}
use Rattle.std.proofs.lemmas.List.Elements.{All-take, All-weaker, All-contains, All-contains_itself}
use Rattle.std.proofs.lemmas.List.Elements.{All-get_or, All-from_get_or, Contains-append_right}
use Rattle.std.proofs.lemmas.List.Sorted.{IsPermutation-refl, IsPermutation-trans, IsPermutation-cons}
use Rattle.std.proofs.lemmas.List.Sorted.{IsPermutation-middle, IsPermutation-append_left}
use Rattle.std.proofs.lemmas.List.Sorted.{IsPermutation-append_right, IsPermutation-append_comm}
use Rattle.std.proofs.lemmas.List.Sorted.{All-permutation, sum_by-IsPermutation, sorted_far}
use Rattle.std.proofs.lemmas.List.Sums.{sum_by-cons, sum_by_push, sum_by-le-sum_by, count_by-le-length}
use Rattle.std.proofs.lemmas.Option.{IfSome_then, get_or_from_slice_get}
use Rattle.pj_group.specs.Least.{AreFirst, IsBehind, KeepsFirst}

-- ---- counts

-- what holds of each element
pub All-each : {X : Type 0} (P : X → Type 0) (xs : List X) → ((x : X) → Contains xs x → P x) → All P xs
All-each P xs h = All-weaker (Contains xs) P h xs (All-contains_itself xs)

-- a test that is turned round
not-true : (b : Bool) → not b ≡ true → b ≡ false
not-true true e = absurd (true≢false (sym e))
not-true false e = refl

-- an element that passes, and one that doesn't
count_by-yes : {X : Type 0} (p : X → Bool) (x : X) (xs : List X) → p x ≡ true
    → count_by p (x ∷ xs) ≡ 1 + count_by p xs
count_by-yes p x xs e =
    sum_by-cons (λ x. cond (p x) 1 0) x xs ∙ ap (λ b. cond b 1 0 + count_by p xs) e

count_by-no : {X : Type 0} (p : X → Bool) (x : X) (xs : List X) → p x ≡ false
    → count_by p (x ∷ xs) ≡ count_by p xs
count_by-no p x xs e =
    let h : count_by p (x ∷ xs) ≡ 0 + count_by p xs =
    sum_by-cons (λ x. cond (p x) 1 0) x xs ∙ ap (λ b. cond b 1 0 + count_by p xs) e in
    omega (arith, h)

-- where none passes, and where all do
count_by-none : {X : Type 0} (p : X → Bool) (xs : List X) → All (λ x. p x ≡ false) xs → count_by p xs ≡ 0
count_by-none p [] a = refl
count_by-none p (x ∷ xs) a =
    count_by-no p x xs (All-head (λ x. p x ≡ false) x xs a)
    ∙ count_by-none p xs (All-tail (λ x. p x ≡ false) x xs a)

pub count_by-all : {X : Type 0} (p : X → Bool) (xs : List X) → All (λ x. p x ≡ true) xs
    → count_by p xs ≡ length xs
count_by-all p [] a = refl
count_by-all p (x ∷ xs) a =
    let head = count_by-yes p x xs (All-head (λ x. p x ≡ true) x xs a) in
    let tail = count_by-all p xs (All-tail (λ x. p x ≡ true) x xs a) in omega (arith, head, tail)

-- where as many pass as there are, all do
all-counted-at : {X : Type 0} (p : X → Bool) (x : X) (xs : List X) (b : Bool) → p x ≡ b
    → length (x ∷ xs) ≤ count_by p (x ∷ xs) → (length xs ≤ count_by p xs → All (λ x. p x ≡ true) xs)
    → All (λ x. p x ≡ true) (x ∷ xs)
all-counted-at p x xs true e l rest =
    let head = count_by-yes p x xs e in All-cons (λ x. p x ≡ true) x xs e (rest (omega (arith, head, l)))
all-counted-at p x xs false e l rest =
    let head = count_by-no p x xs e in absurd (omega (arith, head, l, count_by-le-length p xs))

all-counted : {X : Type 0} (p : X → Bool) (xs : List X) → length xs ≤ count_by p xs
    → All (λ x. p x ≡ true) xs
all-counted p [] l = All-nil (λ x. p x ≡ true)
all-counted p (x ∷ xs) l = all-counted-at p x xs (p x) refl l (all-counted p xs)

module _ {X : Type 0} (before : X → X → Bool) (o : IsStrictWeakOrder before) where
  -- ---- lists in order

  -- none of these comes before an element
  abbrev NoneBefore : X → List X → Type 0
  NoneBefore x xs = All (λ y. before y x ≡ false) xs

  -- no element comes before an earlier one
  abbrev IsOrdered : List X → Type 0
  IsOrdered [] = Unit {0}
  IsOrdered (x ∷ xs) = NoneBefore x xs × IsOrdered xs

  ordered-from : (xs : List X) → IsSortedBy before xs → IsOrdered xs
  ordered-from [] up = tt
  ordered-from (x ∷ xs) up = (
    All-from_get_or (λ y. before y x ≡ false) xs x
        (λ i l. sorted_far before o (x ∷ xs) up 0 (suc i) x (omega arith) (omega arith)),
    ordered-from xs
        (λ k d l m. let e : suc k + 1 ≡ suc (k + 1) = omega arith in
        rw e at (up (suc k) d (omega arith) (omega arith))),
  )

  sorted-from : (xs : List X) → IsOrdered xs → IsSortedBy before xs
  sorted-from [] up k d l m = absurd (omega arith)
  sorted-from (x ∷ xs) up zero d l m = All-get_or (λ y. before y x ≡ false) xs 0 d (omega arith) up.0
  sorted-from (x ∷ xs) up (suc k) d l m =
      let e : suc k + 1 ≡ suc (k + 1) = omega arith in
      rw e (sorted-from xs up.1 k d (omega arith) (omega arith))

  -- the first of a list in order
  IsOrdered-take : (n : ℕ) (xs : List X) → IsOrdered xs → IsOrdered (take n xs)
  IsOrdered-take zero xs up = tt
  IsOrdered-take (suc n) [] up = tt
  IsOrdered-take (suc n) (x ∷ xs) up =
      (All-take (λ y. before y x ≡ false) n xs up.0, IsOrdered-take n xs up.1)

  -- what follows doesn't come before
  NoneBefore-rest : (xs ys : List X) (y : X) → IsOrdered (xs ++ ys) → Contains ys y
      → All (λ x. before y x ≡ false) xs
  NoneBefore-rest [] ys y up c = All-nil (λ x. before y x ≡ false)
  NoneBefore-rest (x ∷ xs) ys y up c =
      All-cons (λ x. before y x ≡ false) x xs
      (All-contains (λ y. before y x ≡ false) (xs ++ ys) y up.0 (Contains-append_right xs ys y c))
      (NoneBefore-rest xs ys y up.1 c)

  -- two lists in order, the second behind the first
  IsOrdered-append : (xs ys : List X) → IsOrdered xs → IsOrdered ys
      → ((y : X) → Contains ys y → All (λ x. before y x ≡ false) xs) → IsOrdered (xs ++ ys)
  IsOrdered-append [] ys a b h = b
  IsOrdered-append (x ∷ xs) ys a b h = (
    All-append (λ y. before y x ≡ false) xs ys a.0
        (All-each (λ y. before y x ≡ false) ys (λ y c. All-head (λ x. before y x ≡ false) x xs (h y c))),
    IsOrdered-append xs ys a.1 b (λ y c. All-tail (λ x. before y x ≡ false) x xs (h y c)),
  )

  -- ---- each list has an arrangement in order

  -- the elements of a list, in order
  record Arranged (xs : List X) : Type 0 where
    pub out : List X
    pub all : IsPermutation xs out
    pub up : IsOrdered out

  -- one more element at its place
  placed-at : (x y : X) (ys : List X) (b : Bool) → before y x ≡ b → IsOrdered (y ∷ ys)
      → Arranged (x ∷ ys) → Arranged (x ∷ y ∷ ys)
  placed-at x y ys true e up rest =
      record {
        out = y ∷ rest.out;
        all =
            IsPermutation-trans (x ∷ y ∷ ys) (y ∷ x ∷ ys) (y ∷ rest.out) (IsPermutation-middle (x ∷ []) y ys)
            (IsPermutation-cons y (x ∷ ys) rest.out rest.all);
        up = (
          All-permutation (λ z. before z y ≡ false) (x ∷ ys) rest.out rest.all
              (All-cons (λ z. before z y ≡ false) x ys (o.one_way y x e) up.0),
          rest.up,
        );
      }
  placed-at x y ys false e up rest =
      record {
        out = x ∷ y ∷ ys;
        all = IsPermutation-refl (x ∷ y ∷ ys);
        up = (
          All-cons (λ z. before z x ≡ false) y ys e
              (All-weaker (λ z. before z y ≡ false) (λ z. before z x ≡ false)
              (λ z n. o.chain z y x n e) ys up.0),
          up,
        );
      }

  placed : (x : X) (ys : List X) → IsOrdered ys → Arranged (x ∷ ys)
  placed x [] up =
      record {
        out = x ∷ [];
        all = IsPermutation-refl (x ∷ []);
        up = (All-nil (λ z. before z x ≡ false), tt);
      }
  placed x (y ∷ ys) up = placed-at x y ys (before y x) refl up (placed x ys up.1)

  placed-first : (x : X) (xs : List X) (rest : Arranged xs) → Arranged (x ∷ rest.out) → Arranged (x ∷ xs)
  placed-first x xs rest more =
      record {
        out = more.out;
        all =
            IsPermutation-trans (x ∷ xs) (x ∷ rest.out) more.out (IsPermutation-cons x xs rest.out rest.all)
            more.all;
        up = more.up;
      }

  arranged : (xs : List X) → Arranged xs
  arranged [] = record { out = []; all = IsPermutation-refl []; up = tt }
  arranged (x ∷ xs) =
      let rest = arranged xs in placed-first x xs rest (placed x rest.out rest.up)

  -- ---- how many don't come after an index

  -- what doesn't come after an index
  abbrev upto : X → X → Bool
  upto y x = not (before y x)

  -- none of a list in order does, where the first doesn't
  none-upto : (y x : X) (xs : List X) → NoneBefore x xs → before y x ≡ true → All (λ z. upto y z ≡ false) xs
  none-upto y x xs a e = All-weaker (λ z. before z x ≡ false) (λ z. upto y z ≡ false)
      (λ z n. at z n (before y z) refl) xs a
    where
      at : (z : X) → before z x ≡ false → (b : Bool) → before y z ≡ b → upto y z ≡ false
      at z n true f = ap not f
      at z n false f = absurd (true≢false (sym e ∙ o.chain y z x f n))

  -- where so many don't come after an index, the first don't
  count-take-at : (y : X) (n : ℕ) (x : X) (xs : List X) (b : Bool) → before y x ≡ b → NoneBefore x xs
      → suc n ≤ count_by (upto y) (x ∷ xs)
      → (n ≤ count_by (upto y) xs → n ≤ count_by (upto y) (take n xs))
      → suc n ≤ count_by (upto y) (x ∷ take n xs)
  count-take-at y n x xs true e a l rest =
      let none = count_by-no (upto y) x xs (ap not e) in
      let others = count_by-none (upto y) xs (none-upto y x xs a e) in absurd (omega (arith, none, others, l))
  count-take-at y n x xs false e a l rest =
      let one = count_by-yes (upto y) x xs (ap not e) in
      let more = rest (omega (arith, one, l)) in
      omega (arith, count_by-yes (upto y) x (take n xs) (ap not e), more)

  count-take : (y : X) (n : ℕ) (xs : List X) → IsOrdered xs → n ≤ count_by (upto y) xs
      → n ≤ count_by (upto y) (take n xs)
  count-take y zero xs up l = omega arith
  count-take y (suc n) [] up l = l
  count-take y (suc n) (x ∷ xs) up l =
      count-take-at y n x xs (before y x) refl up.0 l (count-take y n xs up.1)

  -- an index that comes after none of them
  IsBehind-all : (most : ℕ) (xs : List X) (y : X) → All (λ x. before y x ≡ false) xs → most ≤ length xs
      → IsBehind before most xs y
  IsBehind-all most xs y a l =
      let all = count_by-all (upto y) xs
      (All-weaker (λ x. before y x ≡ false) (λ x. upto y x ≡ true) (λ x e. ap not e) xs a) in
      omega (arith, all, l)

  -- an index that doesn't come before one that is behind
  upto-le : (b c : Bool) → (b ≡ false → c ≡ false) → cond (not b) 1 0 ≤ cond (not c) 1 0
  upto-le true c h = omega arith
  upto-le false true h = absurd (true≢false (h refl))
  upto-le false false h = omega arith

  IsBehind-later : (most : ℕ) (kept : List X) (w z : X) → before z w ≡ false → IsBehind before most kept w
      → IsBehind before most kept z
  IsBehind-later most kept w z e l =
      let more = sum_by-le-sum_by (λ x. cond (upto w x) 1 0) (λ x. cond (upto z x) 1 0) kept
      (λ x. upto-le (before w x) (before z x) (λ n. o.chain z w x e n)) in
      omega (arith, l, more)

  -- one index more
  IsBehind-push : (most : ℕ) (kept : List X) (z y : X) → IsBehind before most kept y
      → IsBehind before most (kept ++ z ∷ []) y
  IsBehind-push most kept z y l = omega (arith, l, sum_by_push (λ x. cond (upto y x) 1 0) kept z)

  -- the first alone
  IsBehind-first : (most : ℕ) (kept out : List X) (y : X) → AreFirst before (Some most) kept out
      → IsBehind before most kept y → IsBehind before most out y
  IsBehind-first most kept out y f l =
      let same = sum_by-IsPermutation (λ x. cond (upto y x) 1 0) kept f.arrangement f.all in
      rw f.first
      (count-take y most f.arrangement (ordered-from f.arrangement f.ordered) (omega (arith, l, same)))

  -- ---- the first indexes

  IsOrdered-first : (most : ℕ) (kept out : List X) → AreFirst before (Some most) kept out → IsOrdered out
  IsOrdered-first most kept out f =
      rw f.first (IsOrdered-take most f.arrangement (ordered-from f.arrangement f.ordered))

  -- the last of them
  IsBehind-last-one : (most : ℕ) (kept out : List X) (w : X) → AreFirst before (Some most) kept out
      → slice_get out (length out - 1) ≡ Some w → most ≤ length out → IsBehind before most out w
  IsBehind-last-one most kept out w f e l =
      IsBehind-all most out w
      (All-from_get_or (λ x. before w x ≡ false) out w
      (λ i m.
      subst (λ z. before z (get_or out i w) ≡ false) (get_or_from_slice_get out (length out - 1) w w e)
      (sorted_far before o out (sorted-from out (IsOrdered-first most kept out f)) i (length out - 1) w
      (omega (arith, m)) (omega (arith, m))))) l

  pub IsBehind-last : (most : ℕ) (kept out : List X) (worst : Option X) → AreFirst before (Some most) kept out
      → IfSome worst (λ w. slice_get out (length out - 1) ≡ Some w) → IfSome worst (λ w. most ≤ length out)
      → IfSome worst (IsBehind before most out)
  IsBehind-last most kept out None f e l = tt
  IsBehind-last most kept out (Some w) f e l = IsBehind-last-one most kept out w f e l

  -- ---- a walk over the indexes

  -- an index that is kept
  pub KeepsFirst-push : (most : ℕ) (seen kept : List X) (worst : Option X) (z : X)
      → KeepsFirst before most seen kept worst
      → KeepsFirst before most (seen ++ z ∷ []) (kept ++ z ∷ []) worst
  KeepsFirst-push most seen kept worst z h =
      record {
        dropped = h.dropped;
        all =
            IsPermutation-trans (seen ++ z ∷ []) ((kept ++ h.dropped) ++ z ∷ [])
            ((kept ++ z ∷ []) ++ h.dropped)
            (IsPermutation-append_left (z ∷ []) seen (kept ++ h.dropped) h.all)
            (rw (append_assoc kept h.dropped (z ∷ []), append_assoc kept (z ∷ []) h.dropped)
            (IsPermutation-append_right kept (h.dropped ++ z ∷ []) (z ∷ h.dropped)
            (IsPermutation-append_comm h.dropped (z ∷ []))));
        behind =
            All-weaker (IsBehind before most kept) (IsBehind before most (kept ++ z ∷ []))
            (IsBehind-push most kept z) h.dropped h.behind;
        bound = IfSome_then worst h.bound (IsBehind-push most kept z);
      }

  -- an index that is skipped
  KeepsFirst-skip : (most : ℕ) (seen kept : List X) (worst : Option X) (z : X)
      → KeepsFirst before most seen kept worst → IsBehind before most kept z
      → KeepsFirst before most (seen ++ z ∷ []) kept worst
  KeepsFirst-skip most seen kept worst z h b =
      record {
        dropped = h.dropped ++ z ∷ [];
        all =
            rw (← append_assoc kept h.dropped (z ∷ []))
            (IsPermutation-append_left (z ∷ []) seen (kept ++ h.dropped) h.all);
        behind = All-push (IsBehind before most kept) h.dropped z h.behind b;
        bound = h.bound;
      }

  pub KeepsFirst-behind : (most : ℕ) (seen kept : List X) (worst : Option X) (z : X)
      → KeepsFirst before most seen kept worst → IsSomeAnd worst (λ w. before z w ≡ false)
      → KeepsFirst before most (seen ++ z ∷ []) kept worst
  KeepsFirst-behind most seen kept None z h b = absurd b
  KeepsFirst-behind most seen kept (Some w) z h b =
      KeepsFirst-skip most seen kept (Some w) z h (IsBehind-later most kept w z b h.bound)

  -- what a cut drops
  behind-cut : (most : ℕ) (a : List X) → IsOrdered a → All (IsBehind before most (take most a)) (drop most a)
  behind-cut most a up =
      All-each (IsBehind before most (take most a)) (drop most a)
      (λ y c.
      IsBehind-all most (take most a) y
      (NoneBefore-rest (take most a) (drop most a) y (rw (take-append-drop most a) up) c)
      (enough y c))
    where
      enough : (y : X) → Contains (drop most a) y → most ≤ length (take most a)
      enough y c = omega (arith, length-take most a, length-drop most a, c.1)

  -- the first of those kept
  pub KeepsFirst-cut : (most : ℕ) (seen kept out : List X) (worst other : Option X)
      → KeepsFirst before most seen kept worst → AreFirst before (Some most) kept out
      → IfSome other (IsBehind before most out) → KeepsFirst before most seen out other
  KeepsFirst-cut most seen kept out worst other h f bound =
      record {
        dropped = left ++ h.dropped;
        all =
            IsPermutation-trans seen (kept ++ h.dropped) (out ++ (left ++ h.dropped)) h.all
            (rw (← append_assoc out left h.dropped)
            (IsPermutation-append_left h.dropped kept (out ++ left) parts));
        behind =
            All-append (IsBehind before most out) left h.dropped
            (rw f.first (behind-cut most f.arrangement (ordered-from f.arrangement f.ordered)))
            (All-weaker (IsBehind before most kept) (IsBehind before most out)
            (λ y l. IsBehind-first most kept out y f l) h.dropped h.behind);
        bound = bound;
      }
    where
      left : List X
      left = drop most f.arrangement

      parts : IsPermutation kept (out ++ left)
      parts = rw (f.first, take-append-drop most f.arrangement) f.all

  -- at the end: the indexes dropped stand behind the first ones
  ended-at : (most : ℕ) (seen out dropped : List X) → IsPermutation seen (out ++ dropped) → IsOrdered out
      → length out ≤ most → All (IsBehind before most out) dropped → (rest : Arranged dropped)
      → take most (out ++ rest.out) ≡ out → AreFirst before (Some most) seen out
  ended-at most seen out dropped all up short behind rest first =
      record {
        arrangement = out ++ rest.out;
        all =
            IsPermutation-trans seen (out ++ dropped) (out ++ rest.out) all
            (IsPermutation-append_right out dropped rest.out rest.all);
        ordered = sorted-from (out ++ rest.out) (IsOrdered-append out rest.out up rest.up later);
        first = sym first;
      }
    where
      later : (y : X) → Contains rest.out y → All (λ x. before y x ≡ false) out
      later y c =
          let b : IsBehind before most out y =
          All-contains (IsBehind before most out) rest.out y
          (All-permutation (IsBehind before most out) dropped rest.out rest.all behind) c in
          All-weaker (λ x. upto y x ≡ true) (λ x. before y x ≡ false) (λ x. not-true (before y x)) out
          (all-counted (upto y) out (omega (arith, b, short)))

  ended : (most : ℕ) (seen out dropped : List X) → IsPermutation seen (out ++ dropped) → IsOrdered out
      → length out ≤ most → All (IsBehind before most out) dropped → AreFirst before (Some most) seen out
  ended most seen out [] all up short behind =
      ended-at most seen out [] all up short behind
      (record { out = []; all = IsPermutation-refl []; up = tt })
      (rw (append-nil out) (take_all most out short))
  ended most seen out (y ∷ ys) all up short behind =
      let b : IsBehind before most out y = All-head (IsBehind before most out) y ys behind in
      let m : most ≤ length out = omega (arith, b, count_by-le-length (upto y) out) in
      let rest = arranged (y ∷ ys) in
      ended-at most seen out (y ∷ ys) all up short behind rest
      (take-append-le most out rest.out m ∙ take_all most out short)

  -- the first of those kept are the first of all
  pub AreFirst-kept : (most : ℕ) (seen kept out : List X) (worst : Option X)
      → KeepsFirst before most seen kept worst → AreFirst before (Some most) kept out
      → AreFirst before (Some most) seen out
  AreFirst-kept most seen kept out worst h f =
      let k = KeepsFirst-cut most seen kept out worst None h f tt in
      ended most seen out k.dropped k.all (IsOrdered-first most kept out f)
      (rw f.first (omega (arith, length-take most f.arrangement))) k.behind

  -- where none are asked for
  pub AreFirst-none : (indexes : List X) → AreFirst before (Some 0) indexes []
  AreFirst-none indexes =
      ended 0 indexes [] indexes (IsPermutation-refl indexes) tt (omega arith)
      (All-each (IsBehind before 0 []) indexes (λ y c. omega arith))
