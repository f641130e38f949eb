-- Facts about rows whose columns are gathered, cut, or joined.
use Rattle.std.proofs.Common.{◌≡◌, ℕ, zero, suc, ◌<◌, ◌≤◌, List, [], ◌∷◌, length, get_or, map, take, refl, ap}
use Rattle.std.proofs.Common.{sym, ◌∙◌, arith}
use Rattle.std.specs.List.{All, range_with_len}
use Rattle.std.specs.List.Sorted as sorted
use Rattle.std.specs.Cmp.{IsTotalOrder}
use Rattle.std.proofs.lemmas.List.{same_lists, length-map, get_or-map, get_or-take, get_or_default}
use Rattle.std.proofs.lemmas.List.{length-take-le}
use Rattle.std.proofs.lemmas.List.Elements.{All-head, All-tail}
use Rattle.std.proofs.lemmas.List.Sorted.{length_permutation, All-permutation}
use Rattle.std.proofs.lemmas.List.FromFn.{length-range_with_len, get_or-range_with_len}
use Rattle.std.proofs.lemmas.List.FromFn.{get_or-map-range_with_len, take-map-range_with_len}
use Rattle.pj_value.specs.declared.value.Kind.{Kind}
use Rattle.pj_value.specs.declared.value.Kind.TheVariants as kinds
use Rattle.pj_value.specs.declared.value.Value.{Value}
use Rattle.pj_value.specs.declared.value.Value.TheVariants as values
use Rattle.pj_value.specs.Columns.{KindedValues, no_values, AreOfKind, values_at, kinds_of, values_of, row_at}
use Rattle.pj_value.specs.Columns.{rows_of}
use Rattle.pj_value.specs.Rows.{rows_at, value_in, column_of, rows_in}
use Rattle.pj_value.specs.Layout.{AreColumnsOf, gathered, truncated, indexes_cmp, is_before}
use Rattle.pj_value.specs.Order.{IsSortedBy}
use Rattle.pj_value.proofs.OrderLemmas.{value_in-row_at, key_total, rising_far, stable_far}
use Rattle.pj_value.proofs.RowsLemmas.{length-rows_of, len_at, kind_of-in}

-- ---- gathered columns

-- each value of a column is of its kind
AreOfKind-values_at : (k : Kind) (vs : List Value) (ps : List ℕ) → AreOfKind k vs
    → All (λ at. at < length vs) ps → AreOfKind k (values_at vs ps)
AreOfKind-values_at k vs [] a p = tt
AreOfKind-values_at k vs (at ∷ ps) a p = (
  kind_of-in k vs at a (All-head (λ at. at < length vs) at ps p),
  AreOfKind-values_at k vs ps a
      (All-tail (λ at. at < length vs) at ps p),
)

-- as many values as indexes in each
pub AreColumnsOf-gathered : (n : ℕ) (ks : List Kind) (cs : List KindedValues) (ps : List ℕ)
    → AreColumnsOf n ks cs → All (λ at. at < n) ps → AreColumnsOf (length ps) ks (map (gathered ps) cs)
AreColumnsOf-gathered n [] [] ps a p = tt
AreColumnsOf-gathered n [] (c ∷ cs) ps a p = absurd a
AreColumnsOf-gathered n (k ∷ ks) [] ps a p = absurd a
AreColumnsOf-gathered n (k ∷ ks) (c ∷ cs) ps a p = (
  record {
    kind_is = a.0.kind_is;
    len_is = length-map ps _;
    of_kind = AreOfKind-values_at k c.values ps a.0.of_kind (rw a.0.len_is p);
  },
  AreColumnsOf-gathered n ks cs ps a.1 p,
)

-- the indexes are in each column
pub All-in_columns : (n : ℕ) (ks : List Kind) (cs : List KindedValues) (ps : List ℕ) → AreColumnsOf n ks cs
    → All (λ at. at < n) ps → All (λ c. All (λ at. at < length c.values) ps) cs
All-in_columns n ks cs ps a p = λ i d l. in_one ks cs i d a l
  where
    in_one : (ks : List Kind) (cs : List KindedValues) (i : ℕ) (d : KindedValues) → AreColumnsOf n ks cs
        → i < length cs → All (λ at. at < length (get_or cs i d).values) ps
    in_one ks [] i d a l = absurd (omega arith)
    in_one [] (c ∷ cs) i d a l = absurd a
    in_one (k ∷ ks) (c ∷ cs) zero d a l = rw a.0.len_is p
    in_one (k ∷ ks) (c ∷ cs) (suc i) d a l = in_one ks cs i d a.1 (omega arith)

-- a row of gathered columns is the row that stood at its index
row_at-gathered : (cs : List KindedValues) (ps : List ℕ) (i : ℕ) → i < length ps
    → row_at (values_of (map (gathered ps) cs)) i ≡ row_at (values_of cs) (get_or ps i 0)
row_at-gathered [] ps i l = refl
row_at-gathered (c ∷ cs) ps i l =
    rw (
      get_or-map (λ at. get_or c.values at (values.Num 0)) ps i 0 (values.Num 0) l,
      row_at-gathered cs ps i l,
    )

row_of-place : (cs : List KindedValues) (n at : ℕ) → at < n
    → get_or (rows_of (values_of cs) n) at [] ≡ row_at (values_of cs) at
row_of-place cs n at l = get_or-map-range_with_len (row_at (values_of cs)) 0 n at at [] l (omega arith)

-- the rows of gathered columns are those at the indexes
pub rows_of-gathered : (cs : List KindedValues) (n : ℕ) (ps : List ℕ) → All (λ at. at < n) ps
    → rows_of (values_of (map (gathered ps) cs)) (length ps) ≡ rows_at (rows_of (values_of cs) n) ps
rows_of-gathered cs n ps p =
    same_lists (rows_of (values_of (map (gathered ps) cs)) (length ps))
    (rows_at (rows_of (values_of cs) n) ps)
    (length-rows_of (values_of (map (gathered ps) cs)) (length ps) ∙ sym (length-map ps _))
    each
  where
    each : (k : ℕ) (d : List Value) → k < length (rows_of (values_of (map (gathered ps) cs)) (length ps))
        → get_or (rows_of (values_of (map (gathered ps) cs)) (length ps)) k d ≡ get_or
        (rows_at (rows_of (values_of cs) n) ps) k d
    each k d m =
        let l : k < length ps = rw (length-rows_of (values_of (map (gathered ps) cs)) (length ps)) at m in
        get_or-map-range_with_len (row_at (values_of (map (gathered ps) cs))) 0 (length ps) k k d l
        (omega arith)
        ∙ row_at-gathered cs ps k l
        ∙ sym (row_of-place cs n (get_or ps k 0) (p k 0 l))
        ∙ sym (get_or-map (λ at. get_or (rows_of (values_of cs) n) at []) ps k 0 d l)

-- ---- one column

get_or-kinds : (n : ℕ) (ks : List Kind) (cs : List KindedValues) (at : ℕ) (c : KindedValues)
    → AreColumnsOf n ks cs → at < length cs → c ≡ get_or cs at c → c.kind ≡ get_or ks at kinds.Num
get_or-kinds n ks [] at c a l e = absurd (omega arith)
get_or-kinds n [] (d ∷ cs) at c a l e = absurd a
get_or-kinds n (k ∷ ks) (d ∷ cs) zero c a l e = ap (λ (x : KindedValues). x.kind) e ∙ a.0.kind_is
get_or-kinds n (k ∷ ks) (d ∷ cs) (suc at) c a l e = get_or-kinds n ks cs at c a.1 (omega arith) e

values_in-rows : (cs : List KindedValues) (n at : ℕ) (c : KindedValues) → length c.values ≡ n → at < length cs
    → c ≡ get_or cs at c → c.values ≡ map (λ row. value_in row at) (rows_of (values_of cs) n)
values_in-rows cs n at c long l e =
    same_lists c.values (map (λ row. value_in row at) (rows_of (values_of cs) n))
    (long ∙ sym (length-rows_of (values_of cs) n) ∙ sym (length-map (rows_of (values_of cs) n) _)) each
  where
    each : (k : ℕ) (d : Value) → k < length c.values
        → get_or c.values k d ≡ get_or (map (λ row. value_in row at) (rows_of (values_of cs) n)) k d
    each k d m =
        let below : k < n = omega arith in
        let inside : k < length (rows_of (values_of cs) n) = rw length-rows_of below in
        get_or_default c.values k d (values.Num 0) m
        ∙ sym (value_in-row_at cs at k c l e)
        ∙ ap (λ row. value_in row at) (sym (row_of-place cs n k below))
        ∙ sym (get_or-map (λ row. value_in row at) (rows_of (values_of cs) n) k [] d inside)

-- a column of the rows is a column that holds them
pub column_of-rows : (n : ℕ) (ks : List Kind) (cs : List KindedValues) (at : ℕ) (c : KindedValues)
    → AreColumnsOf n ks cs → at < length cs → c ≡ get_or cs at c
    → c ≡ column_of (record { kinds = ks; rows = rows_of (values_of cs) n }) at
column_of-rows n ks cs at c a l e =
    let k : c.kind ≡ get_or ks at kinds.Num = get_or-kinds n ks cs at c a l e in
    let v : c.values ≡ map (λ row. value_in row at) (rows_of (values_of cs) n) =
    values_in-rows cs n at c (len_at n ks cs at c a l e) l e in
    λ i. record { kind = k i; values = v i }

-- ---- columns that are cut

AreOfKind-take : (k : Kind) (m : ℕ) (vs : List Value) → AreOfKind k vs → AreOfKind k (take m vs)
AreOfKind-take k zero vs a = tt
AreOfKind-take k (suc m) [] a = tt
AreOfKind-take k (suc m) (v ∷ vs) a = (a.0, AreOfKind-take k m vs a.1)

pub AreColumnsOf-truncated : (n m : ℕ) (ks : List Kind) (cs : List KindedValues) → AreColumnsOf n ks cs
    → m ≤ n → AreColumnsOf m ks (map (truncated m) cs)
AreColumnsOf-truncated n m [] [] a l = tt
AreColumnsOf-truncated n m [] (c ∷ cs) a l = absurd a
AreColumnsOf-truncated n m (k ∷ ks) [] a l = absurd a
AreColumnsOf-truncated n m (k ∷ ks) (c ∷ cs) a l = (
  record {
    kind_is = a.0.kind_is;
    len_is = length-take-le m c.values (rw a.0.len_is l);
    of_kind = AreOfKind-take k m c.values a.0.of_kind;
  },
  AreColumnsOf-truncated n m ks cs a.1 l,
)

row_at-truncated : (cs : List KindedValues) (m i : ℕ) → i < m
    → row_at (values_of (map (truncated m) cs)) i ≡ row_at (values_of cs) i
row_at-truncated [] m i l = refl
row_at-truncated (c ∷ cs) m i l = rw (get_or-take m c.values i (values.Num 0) l, row_at-truncated cs m i l)

-- the first rows alone are left
pub rows_of-truncated : (cs : List KindedValues) (n m : ℕ) → m ≤ n
    → rows_of (values_of (map (truncated m) cs)) m ≡ take m (rows_of (values_of cs) n)
rows_of-truncated cs n m l =
    same_lists (rows_of (values_of (map (truncated m) cs)) m) (rows_of (values_of cs) m)
    (length-rows_of (values_of (map (truncated m) cs)) m ∙ sym (length-rows_of (values_of cs) m)) each
    ∙ sym (take-map-range_with_len (row_at (values_of cs)) 0 n m l)
  where
    each : (k : ℕ) (d : List Value) → k < length (rows_of (values_of (map (truncated m) cs)) m)
        → get_or (rows_of (values_of (map (truncated m) cs)) m) k d ≡ get_or (rows_of (values_of cs) m) k d
    each k d b =
        let below : k < m = rw (length-rows_of (values_of (map (truncated m) cs)) m) at b in
        get_or-map-range_with_len (row_at (values_of (map (truncated m) cs))) 0 m k k d below (omega arith)
        ∙ row_at-truncated cs m k below
        ∙ sym (get_or-map-range_with_len (row_at (values_of cs)) 0 m k k d below (omega arith))

-- ---- columns that become rows

-- columns of one length hold rows
pub AreColumnsOf-kinds : (n : ℕ) (cs : List KindedValues) → All (λ c. length c.values ≡ n) cs
    → All (λ c. AreOfKind c.kind c.values) cs → AreColumnsOf n (kinds_of cs) cs
AreColumnsOf-kinds n [] a b = tt
AreColumnsOf-kinds n (c ∷ cs) a b = (
  record {
    kind_is = refl;
    len_is = All-head (λ c. length c.values ≡ n) c cs a;
    of_kind = All-head (λ c. AreOfKind c.kind c.values) c cs b;
  },
  AreColumnsOf-kinds n cs (All-tail (λ c. length c.values ≡ n) c cs a)
      (All-tail (λ c. AreOfKind c.kind c.values) c cs b),
)

-- the first column's length
pub rows_in-first : (cs : List KindedValues) (c : KindedValues) → 0 < length cs → c ≡ get_or cs 0 c
    → length c.values ≡ rows_in cs
rows_in-first cs c l e =
    ap (λ (x : KindedValues). length x.values) (e ∙ get_or_default cs 0 c (no_values kinds.Num) l)

-- ---- rows that are sorted

-- each index is that of a row
pub All-below : (n : ℕ) (ps : List ℕ) → sorted.IsPermutation (range_with_len 0 n) ps → All (λ at. at < n) ps
All-below n ps p = All-permutation (λ at. at < n) (range_with_len 0 n) ps p each
  where
    each : All (λ at. at < n) (range_with_len 0 n)
    each k d l =
        let below : k < n = rw length-range_with_len at l in
        rw (get_or-range_with_len 0 n k d below) (omega arith)

pub length-indexes : (n : ℕ) (ps : List ℕ) → sorted.IsPermutation (range_with_len 0 n) ps → length ps ≡ n
length-indexes n ps p = length_permutation (range_with_len 0 n) ps p ∙ length-range_with_len 0 n

-- rows at sorted indexes are sorted
pub IsSortedBy-indexes : (cs : List KindedValues) (keys : List ℕ) (n : ℕ) (ps : List ℕ)
    → (out : List (List Value)) → sorted.IsPermutation (range_with_len 0 n) ps
    → sorted.IsSortedBy (is_before cs keys) ps
    → sorted.IsStableBy (is_before cs keys) (range_with_len 0 n) ps
    → out ≡ rows_at (rows_of (values_of cs) n) ps → IsSortedBy keys (rows_of (values_of cs) n) out
IsSortedBy-indexes cs keys n ps out p up stable e = record {
  indexes = ps;
  each_once = rw length-rows_of p;
  rows_are = e;
  rising = λ i j l m. rw (at i (omega arith), at j m)
      (rising_far (indexes_cmp cs keys) ranks ps up i j l (in_places j m));
  stable = λ i j l m f. stable_far (indexes_cmp cs keys) ranks n ps up stable i j l (in_places j m)
      (rw (at i (omega arith), at j m) at f);
}
  where
    ranks : IsTotalOrder (indexes_cmp cs keys)
    ranks = key_total (row_at (values_of cs)) keys

    in_places : (i : ℕ) → i < length out → i < length ps
    in_places i l = rw (e, length-map) at l

    at : (i : ℕ) → i < length out → get_or out i [] ≡ row_at (values_of cs) (get_or ps i 0)
    at i l =
        let m : i < length ps = in_places i l in
        ap (λ rows. get_or rows i []) e
        ∙ get_or-map (λ at. get_or (rows_of (values_of cs) n) at []) ps i 0 [] m
        ∙ row_of-place cs n (get_or ps i 0) (All-below n ps p i 0 m)
