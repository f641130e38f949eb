-- Which rows are held of those that are kept: all that can be among the first.
use Rattle.std.proofs.Common.{◌≡◌, ℕ, ◌+◌, ◌<◌, ◌≤◌, Bool, true, false, not, cond, List, [], ◌∷◌, ◌++◌}
use Rattle.std.proofs.Common.{length, map, get_or, Option, Some, None}
use Rattle.std.proofs.Common.{refl, sym, ap, ◌∙◌, subst, arith, true≢false, append_assoc}
use Rattle.std.specs.Cmp.{IsTotalOrder, IsStrictWeakOrder}
use Rattle.std.specs.List.{All, count_by, range_with_len}
use Rattle.std.specs.List.Sorted.{IsPermutation, IsSortedBy}
use Rattle.std.specs.Option.{IsSomeAnd}
use Rattle.std.specs.Ordering.{is_lt}
use Rattle.std.proofs.lemmas.List.{length-map, get_or-map, append-nil}
use Rattle.std.proofs.lemmas.List.Elements.{All-nil, All-append, All-weaker, All-get_or, All-head}
use Rattle.std.proofs.lemmas.List.Sorted.{IsPermutation-refl, IsPermutation-trans}
use Rattle.std.proofs.lemmas.List.Sorted.{IsPermutation-append_left, IsPermutation-append_right}
use Rattle.std.proofs.lemmas.List.Sorted.{IsPermutation-append_comm, ranks_by}
use Rattle.std.proofs.lemmas.List.Sums.{sum_by-append}
use Rattle.std.proofs.lemmas.Cmp.{on_total, then_total}
use Rattle.pj_value.specs.declared.value.Kind.{Kind}
use Rattle.pj_value.proofs.OrderLemmas.{value_total}
use Rattle.pj_expr.specs.declared.query.OrderKey.{OrderKey}
use Rattle.pj_expr.specs.declared.query.Query.{Query}
use Rattle.pj_expr.specs.Fits.{aggregates_rows}
use Rattle.pj_answer.specs.Answers.{Row, order_cmp}
use Rattle.pj_answer.specs.Answers.{item_value}
use Rattle.pj_answer.proofs.orders.OrderLemmas.{turned_total, none_total}
use Rattle.pj_group.specs.Least.{AreFirst, IsBehind, KeepsFirst}
use Rattle.pj_group.specs.Standing.{comes_before, IsLeftOut, KeepsFirstRows, HoldsRows}
use Rattle.pj_group.proofs.LeastLemmas.{All-each, count_by-all, KeepsFirst-cut, AreFirst-kept}
use Rattle.pj_group.proofs.LineLemmas.{by_indexes}

-- ---- lists

-- a list is in order where its places are
pub IsSortedBy-map : {X : Type 0} (before : ℕ → ℕ → Bool) (other : X → X → Bool) (f : ℕ → X) (n : ℕ) (ps : List ℕ)
    → ((a b : ℕ) → a < n → b < n → before a b ≡ other (f a) (f b)) → All (λ k. k < n) ps
    → IsSortedBy before ps → IsSortedBy other (map f ps)
IsSortedBy-map before other f n ps same within up k d l m =
    let i : k + 1 < length ps = omega (arith, m, length-map ps f) in
    let j : k < length ps = omega (arith, i) in
    (λ t. other (get_or-map f ps (k + 1) 0 d i t) (get_or-map f ps k 0 d j t))
    ∙ sym (same (get_or ps (k + 1) 0) (get_or ps k 0) (All-get_or (λ k. k < n) ps (k + 1) 0 i within)
    (All-get_or (λ k. k < n) ps k 0 j within))
    ∙ up k 0 (omega arith) i

-- the elements at all indexes
pub at_all : {X : Type 0} (xs : List X) (d : X) → map (λ at. get_or xs at d) (range_with_len 0 (length xs)) ≡ xs
at_all xs d = by_indexes (λ at. get_or xs at d) (λ x. x) xs d (λ k l. refl) ∙ map-itself xs
  where
    map-itself : {X : Type 0} (xs : List X) → map (λ x. x) xs ≡ xs
    map-itself [] = refl
    map-itself (x ∷ xs) = ap (λ ys. x ∷ ys) (map-itself xs)

-- the first of those held are the first of all, where LIMIT leaves the others out
pub AreFirst-held : {X : Type 0} (before : X → X → Bool) → IsStrictWeakOrder before → (limit : Option ℕ)
    → (seen held out dropped : List X) → IsPermutation seen (held ++ dropped)
    → All (λ y. IsSomeAnd limit (λ most. IsBehind before most held y)) dropped
    → AreFirst before limit held out → AreFirst before limit seen out
AreFirst-held before o None seen held out [] all a f =
    record {
      arrangement = f.arrangement;
      all = IsPermutation-trans seen held f.arrangement (rw append-nil at all) f.all;
      ordered = f.ordered;
      first = f.first;
    }
AreFirst-held before o None seen held out (y ∷ ys) all a f =
    absurd (All-head (λ y. IsSomeAnd None (λ most. IsBehind before most held y)) y ys a)
AreFirst-held before o (Some most) seen held out dropped all a f =
    AreFirst-kept before o most seen held out None
    (record { dropped = dropped; all = all; behind = a; bound = tt }) f

-- ---- rows in order

-- rows stand in one order by their keys
keys_total : (columns : List Kind) (keys : List OrderKey)
    → IsTotalOrder {K = Row}
    (λ a b. order_cmp keys (map (λ (key : OrderKey). item_value columns (a ∷ []) key.item) keys)
    (map (λ (key : OrderKey). item_value columns (b ∷ []) key.item) keys))
keys_total columns [] = none_total
keys_total columns (key ∷ keys) =
    then_total
    (turned_total _ key.descending (on_total (λ (row : Row). item_value columns (row ∷ []) key.item) value_total))
    (keys_total columns keys)

-- and the test of it is that of an order
pub rows_ranked : (columns : List Kind) (q : Query) → IsStrictWeakOrder (comes_before columns q)
rows_ranked columns q = ranks_by (keys_total columns q.order) (λ (row : Row). row)

-- ---- rows that are held

-- of no rows
pub HoldsRows-none : (columns : List Kind) (q : Query) → HoldsRows columns q [] []
HoldsRows-none columns q = record {
  grouped = λ t. refl;
  separate = λ n. record {
    dropped = [];
    all = IsPermutation-refl [];
    out = All-nil (IsLeftOut columns q []);
  };
}

-- what a count is of, with further elements
enough-more : {X : Type 0} (limit : Option ℕ) (p : X → Bool) (xs more : List X)
    → IsSomeAnd limit (λ most. most ≤ count_by p xs) → IsSomeAnd limit (λ most. most ≤ count_by p (xs ++ more))
enough-more None p xs more e = e
enough-more (Some most) p xs more e = omega (arith, e, sum_by-append (λ x. cond (p x) 1 0) xs more)

-- further rows are held too
KeepsFirstRows-more : (columns : List Kind) (q : Query) (kept held more : List Row)
    → KeepsFirstRows columns q kept held → KeepsFirstRows columns q (kept ++ more) (held ++ more)
KeepsFirstRows-more columns q kept held more k = record {
  dropped = k.dropped;
  all =
      IsPermutation-trans (kept ++ more) ((held ++ k.dropped) ++ more) ((held ++ more) ++ k.dropped)
      (IsPermutation-append_left more kept (held ++ k.dropped) k.all)
      (rw (append_assoc held k.dropped more, append_assoc held more k.dropped)
      (IsPermutation-append_right held (k.dropped ++ more) (more ++ k.dropped)
      (IsPermutation-append_comm k.dropped more)));
  out =
      All-weaker (IsLeftOut columns q held) (IsLeftOut columns q (held ++ more))
      (λ row o. enough-more q.limit (λ other. not (comes_before columns q row other)) held more o) k.dropped
      k.out;
}

pub HoldsRows-more : (columns : List Kind) (q : Query) (kept held more : List Row)
    → HoldsRows columns q kept held → HoldsRows columns q (kept ++ more) (held ++ more)
HoldsRows-more columns q kept held more h = record {
  grouped = λ t. ap (λ rows. rows ++ more) (h.grouped t);
  separate = λ n. KeepsFirstRows-more columns q kept held more (h.separate n);
}

-- without ORDER BY, further rows are left out where as many are held as LIMIT says
unordered-out : (columns : List Kind) (q : Query) (held : List Row) (row : Row) → q.order ≡ []
    → IsSomeAnd q.limit (λ most. most ≤ length held) → IsLeftOut columns q held row
unordered-out columns q held row e l =
    let before = comes_before columns q in
    let none : (other : Row) → before row other ≡ false =
    λ other. ap (λ (keys : List OrderKey).
    is_lt (order_cmp keys (map (λ (key : OrderKey). item_value columns (row ∷ []) key.item) keys)
    (map (λ (key : OrderKey). item_value columns (other ∷ []) key.item) keys))) e in
    let all = count_by-all (λ other. not (before row other)) held
    (All-each (λ other. not (before row other) ≡ true) held (λ other c. ap not (none other))) in
    subst (λ n. IsSomeAnd q.limit (λ most. most ≤ n)) (sym all) l

pub HoldsRows-full : (columns : List Kind) (q : Query) (kept held more : List Row) → aggregates_rows q ≡ false
    → q.order ≡ [] → IsSomeAnd q.limit (λ most. most ≤ length held)
    → HoldsRows columns q kept held → HoldsRows columns q (kept ++ more) held
HoldsRows-full columns q kept held more n e l h =
    let k = h.separate n in
    record {
      grouped = λ t. absurd (true≢false (sym t ∙ n));
      separate = λ n. record {
        dropped = k.dropped ++ more;
        all =
            rw (← append_assoc held k.dropped more)
            (IsPermutation-append_left more kept (held ++ k.dropped) k.all);
        out =
            All-append (IsLeftOut columns q held) k.dropped more k.out
            (All-each (IsLeftOut columns q held) more (λ row c. unordered-out columns q held row e l));
      };
    }

-- those alone that come first
pub HoldsRows-cut : (columns : List Kind) (q : Query) (kept held out : List Row) (most : ℕ)
    → aggregates_rows q ≡ false → q.limit ≡ Some most
    → AreFirst (comes_before columns q) (Some most) held out
    → HoldsRows columns q kept held → HoldsRows columns q kept out
HoldsRows-cut columns q kept held out most n e f h =
    let before = comes_before columns q in
    let k = h.separate n in
    let first : KeepsFirst before most kept held None =
    record {
      dropped = k.dropped;
      all = k.all;
      behind = subst (λ l. All (λ row. IsSomeAnd l (λ m. IsBehind before m held row)) k.dropped) e k.out;
      bound = tt;
    } in
    let c = KeepsFirst-cut before (rows_ranked columns q) most kept held out None None first f tt in
    record {
      grouped = λ t. absurd (true≢false (sym t ∙ n));
      separate = λ n. record {
        dropped = c.dropped;
        all = c.all;
        out = subst (λ l. All (λ row. IsSomeAnd l (λ m. IsBehind before m out row)) c.dropped) (sym e) c.behind;
      };
    }
