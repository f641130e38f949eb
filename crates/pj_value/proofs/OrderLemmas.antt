-- Facts about the order of values and of rows.
use Rattle.std.proofs.Common.{◌≡◌, ℕ, zero, suc, ◌+◌, ◌<◌, ◌≤◌, true, false, List, [], ◌∷◌, ◌++◌, length}
use Rattle.std.proofs.Common.{get_or, drop, refl, ap, sym, subst, ◌∙◌, arith}
use Rattle.std.specs.List.{range_with_len}
use Rattle.std.specs.List.Sorted.{IsSortedBy, IsStableBy, ties}
use Rattle.std.specs.Ordering.{is_lt, is_gt, nat_cmp, ordering_then, ordering_reverse, then_cmp}
use Rattle.std.specs.Ordering.{MatchOrdering}
use Rattle.std.specs.Cmp.{IsTotalOrder, then_total}
use Rattle.std.specs.declared.cmp.Ordering.{Ordering}
use Rattle.std.specs.declared.cmp.Ordering.TheVariants.{Less, Equal, Greater}
use Rattle.std.proofs.lemmas.List.{drop_more, get_or_past, length-map, map-id}
use Rattle.std.proofs.lemmas.List.FromFn.{map-range_with_len_more, get_or-range_with_len}
use Rattle.std.proofs.lemmas.List.FromFn.{length-range_with_len}
use Rattle.std.proofs.lemmas.List.Sorted.{ranks_by, sorted_far, ties_stay_sorted}
use Rattle.std.proofs.lemmas.Cmp.{nat_cmp_total, nat_list_cmp_total, lists_total, on_total, ranked}
use Rattle.pj_value.specs.declared.value.Value.{Value}
use Rattle.pj_value.specs.declared.value.Value.TheVariants as values
use Rattle.pj_value.specs.Rows.{value_in}
use Rattle.pj_value.specs.Columns.{KindedValues, values_of, row_at}
use Rattle.pj_value.specs.Order.{value_cmp, row_cmp, key_of, key_cmp}

-- ---- the order is total

value_antisymm : (x y : Value) → value_cmp x y ≡ ordering_reverse (value_cmp y x)
value_antisymm (values.Num m) (values.Num n) = nat_cmp_total.antisymm m n
value_antisymm (values.Num m) (values.Text t) = refl
value_antisymm (values.Text s) (values.Num n) = refl
value_antisymm (values.Text s) (values.Text t) = nat_list_cmp_total.antisymm s t

value_trans : (x y z : Value) → value_cmp x y ≡ Less → value_cmp y z ≡ Less → value_cmp x z ≡ Less
value_trans (values.Num l) (values.Num m) (values.Num n) p q = nat_cmp_total.trans l m n p q
value_trans (values.Num l) (values.Num m) (values.Text t) p q = refl
value_trans (values.Num l) (values.Text s) (values.Num n) p q = (cc)
value_trans (values.Num l) (values.Text s) (values.Text t) p q = refl
value_trans (values.Text r) (values.Num m) (values.Num n) p q = (cc)
value_trans (values.Text r) (values.Num m) (values.Text t) p q = (cc)
value_trans (values.Text r) (values.Text s) (values.Num n) p q = (cc)
value_trans (values.Text r) (values.Text s) (values.Text t) p q = nat_list_cmp_total.trans r s t p q

value_congr : (x y z : Value) → value_cmp x y ≡ Equal → value_cmp x z ≡ value_cmp y z
value_congr (values.Num l) (values.Num m) (values.Num n) p = nat_cmp_total.congr l m n p
value_congr (values.Num l) (values.Num m) (values.Text t) p = refl
value_congr (values.Num l) (values.Text s) (values.Num n) p = (cc)
value_congr (values.Num l) (values.Text s) (values.Text t) p = (cc)
value_congr (values.Text r) (values.Num m) (values.Num n) p = (cc)
value_congr (values.Text r) (values.Num m) (values.Text t) p = (cc)
value_congr (values.Text r) (values.Text s) (values.Num n) p = refl
value_congr (values.Text r) (values.Text s) (values.Text t) p = nat_list_cmp_total.congr r s t p

-- values stand in one order
pub value_total : IsTotalOrder value_cmp
value_total = record { antisymm = value_antisymm; trans = value_trans; congr = value_congr }

-- lists of values do too
pub row_total : IsTotalOrder row_cmp
row_total = lists_total value_total

-- and what has a row of its own, by some columns of it
pub key_total : {X : Type 0} (row : X → List Value) (keys : List ℕ)
    → IsTotalOrder (λ x y. key_cmp keys (row x) (row y))
key_total row keys = on_total (λ x. key_of keys (row x)) row_total

-- ---- the value of a row in a column

-- in a column that there is
pub value_in-row_at : (cs : List KindedValues) (column row : ℕ) (c : KindedValues) → column < length cs
    → c ≡ get_or cs column c
    → value_in (row_at (values_of cs) row) column ≡ get_or c.values row (values.Num 0)
value_in-row_at [] column row c l e = absurd (omega arith)
value_in-row_at (d ∷ cs) zero row c l e =
    ap (λ (x : KindedValues). get_or x.values row (values.Num 0)) (sym e)
value_in-row_at (d ∷ cs) (suc column) row c l e = value_in-row_at cs column row c (omega arith) e

-- and in one that there is not
pub value_in-past : (cs : List KindedValues) (column row : ℕ) → length cs ≤ column
    → value_in (row_at (values_of cs) row) column ≡ values.Num 0
value_in-past cs column row l =
    get_or_past (row_at (values_of cs) row) column (values.Num 0) (rw (length-map, length-map) l)

-- ---- one column more

key_cmp-drop : (keys : List ℕ) (i : ℕ) (a b : List Value) → i < length keys
    → key_cmp (drop i keys) a b ≡ ordering_then
    (value_cmp (value_in a (get_or keys i 0)) (value_in b (get_or keys i 0)))
    (key_cmp (drop (i + 1) keys) a b)
key_cmp-drop keys i a b l = ap (λ ks. key_cmp ks a b) (drop_more keys i 0 l)

-- a column that there is
pub key_cmp-more : (cs : List KindedValues) (keys : List ℕ) (i a b : ℕ) (c : KindedValues) (r : Ordering)
    → i < length keys → get_or keys i 0 < length cs → c ≡ get_or cs (get_or keys i 0) c
    → r ≡ value_cmp (get_or c.values a (values.Num 0)) (get_or c.values b (values.Num 0))
    → key_cmp (drop i keys) (row_at (values_of cs) a) (row_at (values_of cs) b) ≡ ordering_then r
    (key_cmp (drop (i + 1) keys) (row_at (values_of cs) a) (row_at (values_of cs) b))
key_cmp-more cs keys i a b c r l m e f =
    key_cmp-drop keys i (row_at (values_of cs) a) (row_at (values_of cs) b) l
    ∙ rw (value_in-row_at cs (get_or keys i 0) a c m e, value_in-row_at cs (get_or keys i 0) b c m e, f)

-- a column that there is not
pub key_cmp-past : (cs : List KindedValues) (keys : List ℕ) (i a b : ℕ) → i < length keys
    → length cs ≤ get_or keys i 0
    → key_cmp (drop i keys) (row_at (values_of cs) a) (row_at (values_of cs) b) ≡ key_cmp (drop (i + 1) keys)
    (row_at (values_of cs) a) (row_at (values_of cs) b)
key_cmp-past cs keys i a b l m =
    key_cmp-drop keys i (row_at (values_of cs) a) (row_at (values_of cs) b) l
    ∙ rw (value_in-past cs (get_or keys i 0) a m, value_in-past cs (get_or keys i 0) b m)

-- a column in which they differ decides
pub then-decided : (r s : Ordering) → (r ≡ Equal → ⊥) → ordering_then r s ≡ r
then-decided Less s n = refl
then-decided Equal s n = absurd (n refl)
then-decided Greater s n = refl

-- ---- indexes that are sorted by an order

-- one index more
pub range-more : (n : ℕ) → range_with_len 0 (n + 1) ≡ range_with_len 0 n ++ n ∷ []
range-more n =
    sym (map-id (range_with_len 0 (n + 1))) ∙ map-range_with_len_more (λ x. x) 0 n n (omega arith)
    ∙ ap (λ xs. xs ++ n ∷ []) (map-id (range_with_len 0 n))

turned : (r : Ordering) → is_lt r ≡ false → is_gt (ordering_reverse r) ≡ false
turned Less e = (cc)
turned Equal e = refl
turned Greater e = refl

-- no index stands behind one that is after it
pub rising_far : (R : ℕ → ℕ → Ordering) → IsTotalOrder R → (ps : List ℕ)
    → IsSortedBy (λ x y. is_lt (R x y)) ps → (i j : ℕ) → i ≤ j → j < length ps
    → is_gt (R (get_or ps i 0) (get_or ps j 0)) ≡ false
rising_far R o ps up i j l m =
    ap is_gt (o.antisymm (get_or ps i 0) (get_or ps j 0))
    ∙ turned (R (get_or ps j 0) (get_or ps i 0)) (sorted_far (λ x y. is_lt (R x y)) (ranks_by o (λ x. x))
    ps up i j 0 l m)

-- an order that goes on by size where indexes are equal in it
by_size : (r s : Ordering) → is_lt r ≡ false → (r ≡ Equal → is_lt s ≡ false)
    → is_lt (ordering_then r s) ≡ false
by_size Less s e f = e
by_size Equal s e f = f refl
by_size Greater s e f = refl

equal_turned : (r s : Ordering) → r ≡ ordering_reverse s → r ≡ Equal → s ≡ Equal
equal_turned r Less e f = (cc)
equal_turned r Equal e f = refl
equal_turned r Greater e f = (cc)

equal_ties : (R : ℕ → ℕ → Ordering) (x y : ℕ) → R x y ≡ Equal → R y x ≡ Equal
    → ties (λ x y. is_lt (R x y)) x y ≡ true
equal_ties R x y e f = rw (e, f)

rising_range : (n : ℕ) → IsSortedBy (λ x y. is_lt (nat_cmp x y)) (range_with_len 0 n)
rising_range n k d l m =
    let h : k + 1 < n = rw length-range_with_len at m in
    rw (get_or-range_with_len 0 n (k + 1) d h, get_or-range_with_len 0 n k d (omega arith))
    (not_less (0 + (k + 1)) (0 + k) (omega arith))
  where
    not_less : (x y : ℕ) → y ≤ x → is_lt (nat_cmp x y) ≡ false
    not_less x y l = from (nat_cmp x y) (ranked x y (nat_cmp x y) refl)
      where
        from : (r : Ordering) → MatchOrdering r (x < y) (x ≡ y) (y < x) → is_lt r ≡ false
        from Less h = absurd (omega arith)
        from Equal h = refl
        from Greater h = refl

not_below : (x y : ℕ) → is_lt (nat_cmp y x) ≡ false → x ≤ y
not_below x y e = from (nat_cmp y x) (ranked y x (nat_cmp y x) refl) e
  where
    from : (r : Ordering) → MatchOrdering r (y < x) (y ≡ x) (x < y) → is_lt r ≡ false → x ≤ y
    from Less h e = (cc)
    from Equal h e = omega arith
    from Greater h e = omega arith

-- indexes that are equal in the order stand by size
pub stable_far : (R : ℕ → ℕ → Ordering) → IsTotalOrder R → (n : ℕ) (ps : List ℕ)
    → IsSortedBy (λ x y. is_lt (R x y)) ps → IsStableBy (λ x y. is_lt (R x y)) (range_with_len 0 n) ps
    → (i j : ℕ) → i ≤ j → j < length ps → R (get_or ps i 0) (get_or ps j 0) ≡ Equal
    → get_or ps i 0 ≤ get_or ps j 0
stable_far R o n ps up stable i j l m e =
    let far : is_lt (then_cmp R nat_cmp (get_or ps j 0) (get_or ps i 0)) ≡ false =
    sorted_far (λ x y. is_lt (then_cmp R nat_cmp x y)) (ranks_by (then_total o nat_cmp_total) (λ x. x))
    ps near i j 0 l m in
    let back : R (get_or ps j 0) (get_or ps i 0) ≡ Equal =
    equal_turned (R (get_or ps i 0) (get_or ps j 0)) (R (get_or ps j 0) (get_or ps i 0))
    (o.antisymm (get_or ps i 0) (get_or ps j 0)) e in
    not_below (get_or ps i 0) (get_or ps j 0)
    (subst (λ r. is_lt (ordering_then r (nat_cmp (get_or ps j 0) (get_or ps i 0))) ≡ false) back far)
  where
    near : IsSortedBy (λ x y. is_lt (then_cmp R nat_cmp x y)) ps
    near k d a b =
        by_size (R (get_or ps (k + 1) d) (get_or ps k d)) (nat_cmp (get_or ps (k + 1) d) (get_or ps k d))
        (up k d a b)
        (λ f. ties_stay_sorted (λ x y. is_lt (nat_cmp x y)) (λ x y. is_lt (R x y))
        (ranks_by nat_cmp_total (λ x. x)) (ranks_by o (λ x. x)) (range_with_len 0 n) ps (rising_range n)
        stable k d b
        (equal_ties R (get_or ps k d) (get_or ps (k + 1) d)
        (equal_turned (R (get_or ps (k + 1) d) (get_or ps k d)) (R (get_or ps k d) (get_or ps (k + 1) d))
        (o.antisymm (get_or ps (k + 1) d) (get_or ps k d)) f) f))
