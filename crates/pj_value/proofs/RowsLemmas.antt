-- Facts about the rows that columns hold.
use Rattle.std.proofs.Common.{◌≡◌, ℕ, zero, suc, ◌+◌, ◌<◌, ◌≤◌, List, [], ◌∷◌, ◌++◌, length, get_or, map}
use Rattle.std.proofs.Common.{take, replicate, refl, ap, sym, ◌∙◌, arith, append_assoc, append-nil}
use Rattle.std.specs.List.{AllZip, range_with_len}
use Rattle.std.proofs.lemmas.List.{get_or_append_left, get_or-append-add, take_at, length-append}
use Rattle.std.proofs.lemmas.List.FromFn.{map-range_with_len_more, length-map-range_with_len}
use Rattle.std.proofs.lemmas.List.FromFn.{get_or-map-range_with_len}
use Rattle.pj_value.specs.declared.value.Kind.{Kind}
use Rattle.pj_value.specs.declared.value.Value.{Value}
use Rattle.pj_value.specs.declared.value.Value.TheVariants as values
use Rattle.pj_value.specs.Values.{kind_of}
use Rattle.pj_value.specs.Rows.{HaveKinds, value_at}
use Rattle.pj_value.specs.Columns.{KindedValues, AreOfKind, no_values, kinds_of, values_of, row_at, rows_of}
use Rattle.pj_value.specs.Layout.{AreColumnsOf, joined, truncated, columns_of_row}

-- the value that is read where there is none
abbrev none : Value
none = values.Num 0

-- ---- what rows the columns hold

pub length-rows_of : (xss : List (List Value)) (n : ℕ) → length (rows_of xss n) ≡ n
length-rows_of xss n = length-map-range_with_len (row_at xss) 0 n

rows_of-suc : (xss : List (List Value)) (n : ℕ) → rows_of xss (suc n) ≡ rows_of xss n ++ row_at xss n ∷ []
rows_of-suc xss n =
    let e : suc n ≡ n + 1 = omega arith in
    ap (λ k. rows_of xss k) e ∙ map-range_with_len_more (row_at xss) 0 n n (omega arith)

-- of no columns each row is empty
pub rows_of-none : (n : ℕ) → rows_of [] n ≡ replicate n []
rows_of-none n = from 0 n
  where
    from : (a n : ℕ) → map (row_at []) (range_with_len a n) ≡ replicate n []
    from a zero = refl
    from a (suc n) = ap (λ (rows : List (List Value)). [] ∷ rows) (from (a + 1) n)

-- the value of a row in a column
pub value_at-rows_of : (cs : List KindedValues) (n row column : ℕ) (c : KindedValues) → row < n
    → column < length cs → c ≡ get_or cs column c
    → value_at (rows_of (values_of cs) n) row column ≡ get_or c.values row none
value_at-rows_of cs n row column c l m e =
    ap (λ vs. get_or vs column none)
    (get_or-map-range_with_len (row_at (values_of cs)) 0 n row row [] l (omega arith))
    ∙ in_column cs column m e
  where
    in_column : (cs : List KindedValues) (column : ℕ) → column < length cs → c ≡ get_or cs column c
        → get_or (row_at (values_of cs) row) column none ≡ get_or c.values row none
    in_column [] column m e = absurd (omega arith)
    in_column (d ∷ cs) zero m e = ap (λ (x : KindedValues). get_or x.values row none) (sym e)
    in_column (d ∷ cs) (suc column) m e = in_column cs column (omega arith) e

-- ---- columns of some kinds

pub kinds_of-columns : (n : ℕ) (ks : List Kind) (cs : List KindedValues) → AreColumnsOf n ks cs
    → kinds_of cs ≡ ks
kinds_of-columns n [] [] a = refl
kinds_of-columns n [] (c ∷ cs) a = absurd a
kinds_of-columns n (k ∷ ks) [] a = absurd a
kinds_of-columns n (k ∷ ks) (c ∷ cs) a = rw (a.0.kind_is, kinds_of-columns n ks cs a.1)

pub len_at : (n : ℕ) (ks : List Kind) (cs : List KindedValues) (i : ℕ) (c : KindedValues)
    → AreColumnsOf n ks cs → i < length cs → c ≡ get_or cs i c → length c.values ≡ n
len_at n [] [] i c a l e = absurd (omega arith)
len_at n [] (d ∷ cs) i c a l e = absurd a
len_at n (k ∷ ks) [] i c a l e = absurd a
len_at n (k ∷ ks) (d ∷ cs) zero c a l e = rw e a.0.len_is
len_at n (k ∷ ks) (d ∷ cs) (suc i) c a l e = len_at n ks cs i c a.1 (omega arith) e

pub AreColumnsOf-none : (ks : List Kind) → AreColumnsOf 0 ks (map no_values ks)
AreColumnsOf-none [] = tt
AreColumnsOf-none (k ∷ ks) = (record { kind_is = refl; len_is = refl; of_kind = tt }, AreColumnsOf-none ks)

-- a value that a column holds is of its kind
pub kind_of-in : (k : Kind) (vs : List Value) (i : ℕ) → AreOfKind k vs → i < length vs
    → kind_of (get_or vs i none) ≡ k
kind_of-in k [] i a l = absurd (omega arith)
kind_of-in k (v ∷ vs) zero a l = a.0
kind_of-in k (v ∷ vs) (suc i) a l = kind_of-in k vs i a.1 (omega arith)

kinds-row_at : (n : ℕ) (ks : List Kind) (cs : List KindedValues) (i : ℕ) → AreColumnsOf n ks cs → i < n
    → map kind_of (row_at (values_of cs) i) ≡ ks
kinds-row_at n [] [] i a l = refl
kinds-row_at n [] (c ∷ cs) i a l = absurd a
kinds-row_at n (k ∷ ks) [] i a l = absurd a
kinds-row_at n (k ∷ ks) (c ∷ cs) i a l =
    rw (kind_of-in k c.values i a.0.of_kind (rw a.0.len_is l), kinds-row_at n ks cs i a.1 l)

-- each row has one value of each kind
pub HaveKinds-rows_of : (n : ℕ) (ks : List Kind) (cs : List KindedValues) → AreColumnsOf n ks cs
    → HaveKinds ks (rows_of (values_of cs) n)
HaveKinds-rows_of n ks cs a = from 0 n (omega arith)
  where
    from : (at m : ℕ) → at + m ≡ n → HaveKinds ks (map (row_at (values_of cs)) (range_with_len at m))
    from at zero e = tt
    from at (suc m) e = (kinds-row_at n ks cs at a (omega arith), from (at + 1) m (omega arith))

-- ---- columns that are joined with values

-- as many values of the kind
pub record IsPartOf (len : ℕ) (kind : Kind) (vs : List Value) : Type 0 where
  pub len_is : length vs ≡ len
  pub of_kind : AreOfKind kind vs

-- the values of columns, one for each kind
abbrev pub ArePartsOf : ℕ → List Kind → List (List Value) → Type 0
ArePartsOf len ks vss = AllZip (IsPartOf len) ks vss

pub ArePartsOf-row : (ks : List Kind) (row : List Value) → map kind_of row ≡ ks
    → ArePartsOf 1 ks (columns_of_row row)
ArePartsOf-row [] [] e = tt
ArePartsOf-row [] (v ∷ row) e = (cc)
ArePartsOf-row (k ∷ ks) [] e = (cc)
ArePartsOf-row (k ∷ ks) (v ∷ row) e =
    (record { len_is = refl; of_kind = ((cc), tt) }, ArePartsOf-row ks row (cc))

pub ArePartsOf-columns : (n : ℕ) (ks : List Kind) (cs : List KindedValues) → AreColumnsOf n ks cs
    → ArePartsOf n ks (values_of cs)
ArePartsOf-columns n [] [] a = tt
ArePartsOf-columns n [] (c ∷ cs) a = absurd a
ArePartsOf-columns n (k ∷ ks) [] a = absurd a
ArePartsOf-columns n (k ∷ ks) (c ∷ cs) a =
    (record { len_is = a.0.len_is; of_kind = a.0.of_kind }, ArePartsOf-columns n ks cs a.1)

AreOfKind-append : (k : Kind) (vs ws : List Value) → AreOfKind k vs → AreOfKind k ws → AreOfKind k (vs ++ ws)
AreOfKind-append k [] ws a b = b
AreOfKind-append k (v ∷ vs) ws a b = (a.0, AreOfKind-append k vs ws a.1 b)

pub AreColumnsOf-joined : (n m : ℕ) (ks : List Kind) (cs : List KindedValues) (vss : List (List Value))
    → AreColumnsOf n ks cs → ArePartsOf m ks vss → AreColumnsOf (n + m) ks (joined cs vss)
AreColumnsOf-joined n m [] [] vss a b = tt
AreColumnsOf-joined n m [] (c ∷ cs) vss a b = absurd a
AreColumnsOf-joined n m (k ∷ ks) [] vss a b = absurd a
AreColumnsOf-joined n m (k ∷ ks) (c ∷ cs) [] a b = absurd b
AreColumnsOf-joined n m (k ∷ ks) (c ∷ cs) (vs ∷ vss) a b = (
  record {
    kind_is = a.0.kind_is;
    len_is = rw (length-append, a.0.len_is, b.0.len_is);
    of_kind = AreOfKind-append k c.values vs a.0.of_kind b.0.of_kind;
  },
  AreColumnsOf-joined n m ks cs vss a.1 b.1,
)

-- what was there is left when the columns are cut
pub truncated-joined : (n : ℕ) (ks : List Kind) (cs : List KindedValues) (vss : List (List Value))
    → AreColumnsOf n ks cs → map (truncated n) (joined cs vss) ≡ cs
truncated-joined n [] [] vss a = refl
truncated-joined n [] (c ∷ cs) vss a = absurd a
truncated-joined n (k ∷ ks) [] vss a = absurd a
truncated-joined n (k ∷ ks) (c ∷ cs) [] a =
    let rest : map (truncated n) cs ≡ cs =
    ap (map (truncated n)) (sym (joined_none cs)) ∙ truncated-joined n ks cs [] a.1 in
    rw (take_whole n c.values a.0.len_is, rest)
  where
    joined_none : (ds : List KindedValues) → joined ds [] ≡ ds
    joined_none [] = refl
    joined_none (d ∷ ds) = refl

    take_whole : (k : ℕ) (xs : List Value) → length xs ≡ k → take k xs ≡ xs
    take_whole k xs e = ap (take k) (sym (append-nil xs)) ∙ take_at xs [] k e
truncated-joined n (k ∷ ks) (c ∷ cs) (vs ∷ vss) a =
    rw (take_at c.values vs n a.0.len_is, truncated-joined n ks cs vss a.1)

row_at-joined_left : (n : ℕ) (ks : List Kind) (cs : List KindedValues) (vss : List (List Value)) (i : ℕ)
    → AreColumnsOf n ks cs → i < n → row_at (values_of (joined cs vss)) i ≡ row_at (values_of cs) i
row_at-joined_left n [] [] vss i a l = refl
row_at-joined_left n [] (c ∷ cs) vss i a l = absurd a
row_at-joined_left n (k ∷ ks) [] vss i a l = absurd a
row_at-joined_left n (k ∷ ks) (c ∷ cs) [] i a l = refl
row_at-joined_left n (k ∷ ks) (c ∷ cs) (vs ∷ vss) i a l =
    rw (get_or_append_left c.values vs none i (rw a.0.len_is l), row_at-joined_left n ks cs vss i a.1 l)

row_at-joined_right : (n m : ℕ) (ks : List Kind) (cs : List KindedValues) (vss : List (List Value)) (i : ℕ)
    → AreColumnsOf n ks cs → ArePartsOf m ks vss → row_at (values_of (joined cs vss)) (n + i) ≡ row_at vss i
row_at-joined_right n m [] [] [] i a b = refl
row_at-joined_right n m [] [] (vs ∷ vss) i a b = absurd b
row_at-joined_right n m [] (c ∷ cs) vss i a b = absurd a
row_at-joined_right n m (k ∷ ks) [] vss i a b = absurd a
row_at-joined_right n m (k ∷ ks) (c ∷ cs) [] i a b = absurd b
row_at-joined_right n m (k ∷ ks) (c ∷ cs) (vs ∷ vss) i a b =
    let here : get_or (c.values ++ vs) (n + i) none ≡ get_or vs i none =
    ap (λ k. get_or (c.values ++ vs) (k + i) none) (sym a.0.len_is) ∙ get_or-append-add c.values vs i none in
    rw (here, row_at-joined_right n m ks cs vss i a.1 b.1)

rows_of-joined_left : (n : ℕ) (ks : List Kind) (cs : List KindedValues) (vss : List (List Value)) (i : ℕ)
    → AreColumnsOf n ks cs → i ≤ n → rows_of (values_of (joined cs vss)) i ≡ rows_of (values_of cs) i
rows_of-joined_left n ks cs vss zero a l = refl
rows_of-joined_left n ks cs vss (suc i) a l =
    rows_of-suc (values_of (joined cs vss)) i
    ∙ ap (λ rest. rest ++ row_at (values_of (joined cs vss)) i ∷ [])
    (rows_of-joined_left n ks cs vss i a (omega arith))
    ∙ ap (λ row. rows_of (values_of cs) i ++ row ∷ []) (row_at-joined_left n ks cs vss i a (omega arith))
    ∙ sym (rows_of-suc (values_of cs) i)

-- the further rows stand behind those that were there
pub rows_of-joined : (n m : ℕ) (ks : List Kind) (cs : List KindedValues) (vss : List (List Value)) (i : ℕ)
    → AreColumnsOf n ks cs → ArePartsOf m ks vss
    → rows_of (values_of (joined cs vss)) (n + i) ≡ rows_of (values_of cs) n ++ rows_of vss i
rows_of-joined n m ks cs vss zero a b =
    let e : n + 0 ≡ n = omega arith in
    ap (λ k. rows_of (values_of (joined cs vss)) k) e
    ∙ rows_of-joined_left n ks cs vss n a (omega arith)
    ∙ sym (append-nil _)
rows_of-joined n m ks cs vss (suc i) a b =
    let e : n + suc i ≡ suc (n + i) = omega arith in
    ap (λ k. rows_of (values_of (joined cs vss)) k) e
    ∙ rows_of-suc (values_of (joined cs vss)) (n + i)
    ∙ ap (λ rest. rest ++ row_at (values_of (joined cs vss)) (n + i) ∷ [])
    (rows_of-joined n m ks cs vss i a b)
    ∙ ap (λ row. (rows_of (values_of cs) n ++ rows_of vss i) ++ row ∷ [])
    (row_at-joined_right n m ks cs vss i a b)
    ∙ append_assoc (rows_of (values_of cs) n) (rows_of vss i) _
    ∙ ap (λ rest. rows_of (values_of cs) n ++ rest) (sym (rows_of-suc vss i))

-- a row alone
pub rows_of-row : (row : List Value) → rows_of (columns_of_row row) 1 ≡ row ∷ []
rows_of-row row = ap (λ r. r ∷ []) (at_zero row)
  where
    at_zero : (r : List Value) → row_at (columns_of_row r) 0 ≡ r
    at_zero [] = refl
    at_zero (v ∷ r) = ap (λ rest. v ∷ rest) (at_zero r)

-- ---- what is left of columns after a call that failed, and after one that did not

pub cut_back : (n : ℕ) (ks : List Kind) (cs after cut : List KindedValues) (vss : List (List Value))
    → AreColumnsOf n ks cs → (i : ℕ) × (after ≡ joined cs (take i vss)) → cut ≡ map (truncated n) after
    → cut ≡ cs
cut_back n ks cs after cut vss a (i, e) f =
    f ∙ ap (map (truncated n)) e ∙ truncated-joined n ks cs (take i vss) a

pub AreColumnsOf-pushed : (n m : ℕ) (ks : List Kind) (cs after : List KindedValues) (row : List Value)
    → AreColumnsOf n ks cs → map kind_of row ≡ ks → after ≡ joined cs (columns_of_row row) → n + 1 ≡ m
    → AreColumnsOf m ks after
AreColumnsOf-pushed n m ks cs after row a e f l =
    rw (f, ← l) (AreColumnsOf-joined n 1 ks cs (columns_of_row row) a (ArePartsOf-row ks row e))

pub rows_of-pushed : (n m : ℕ) (ks : List Kind) (cs after : List KindedValues) (row : List Value)
    → AreColumnsOf n ks cs → map kind_of row ≡ ks → after ≡ joined cs (columns_of_row row) → n + 1 ≡ m
    → rows_of (values_of after) m ≡ rows_of (values_of cs) n ++ row ∷ []
rows_of-pushed n m ks cs after row a e f l =
    rw (f, ← l)
    (rows_of-joined n 1 ks cs (columns_of_row row) 1 a (ArePartsOf-row ks row e)
    ∙ ap (λ rest. rows_of (values_of cs) n ++ rest) (rows_of-row row))

pub AreColumnsOf-appended : (n m k : ℕ) (ks ls : List Kind) (cs ds after : List KindedValues)
    → AreColumnsOf n ks cs → AreColumnsOf m ls ds → ls ≡ ks → after ≡ joined cs (values_of ds) → n + m ≡ k
    → AreColumnsOf k ks after
AreColumnsOf-appended n m k ks ls cs ds after a b e f l =
    rw (f, ← l) (AreColumnsOf-joined n m ks cs (values_of ds) a (ArePartsOf-columns m ks ds (rw e at b)))

pub rows_of-appended : (n m k : ℕ) (ks ls : List Kind) (cs ds after : List KindedValues)
    → AreColumnsOf n ks cs → AreColumnsOf m ls ds → ls ≡ ks → after ≡ joined cs (values_of ds) → n + m ≡ k
    → rows_of (values_of after) k ≡ rows_of (values_of cs) n ++ rows_of (values_of ds) m
rows_of-appended n m k ks ls cs ds after a b e f l =
    rw (f, ← l) (rows_of-joined n m ks cs (values_of ds) m a (ArePartsOf-columns m ks ds (rw e at b)))
