-- The keys of rows, and the index that they make.
use Rattle.std.proofs.Common.{◌≡◌, ℕ, zero, suc, ◌+◌, ◌*◌, ◌<◌, ◌≤◌, false, List, [], ◌∷◌, ◌++◌, length, map, get_or}
use Rattle.std.proofs.Common.{refl, sym, ap, ◌∙◌, arith}
use Rattle.std.proofs.Math.Nat.{mul-le-mul_right}
use Rattle.std.proofs.Math.ListN as lists
use Rattle.std.specs.List.{All, range_with_len}
use Rattle.std.specs.Ordering.{is_gt}
use Rattle.std.proofs.lemmas.Grind.{div_ceil_times}
use Rattle.std.proofs.lemmas.List.{length-map, get_or-map}
use Rattle.std.proofs.lemmas.List.FromFn.{length-map-range_with_len, get_or-map-range_with_len, map-range_with_len_more}
use Rattle.std.proofs.lemmas.Simd.{map-map}
use Rattle.pj_value.specs.declared.value.Kind.{Kind}
use Rattle.pj_value.specs.declared.value.Kind.TheVariants as kinds
use Rattle.pj_value.specs.declared.value.Value.{Value}
use Rattle.pj_value.specs.declared.value.Value.TheVariants as values
use Rattle.pj_value.specs.Values.{kind_of}
use Rattle.pj_value.specs.Columns.{KindedValues, kinds_of, values_of, row_at, rows_of}
use Rattle.pj_value.specs.Rows.{KindedRows, HaveKinds, value_in, column_of, rows_in, rows_joined}
use Rattle.pj_value.specs.Order.{key_of, key_cmp}
use Rattle.pj_part.specs.Formed.{granule_count, kinds_at}
use Rattle.pj_part.specs.Agreement.{index_of}
use Rattle.pj_part.specs.Laws.{NeverFall}
use Rattle.pj_build.specs.Keys.{granule_starts, column_at}

-- ---- keys of rows

-- a value of a row is of the kind that stands in its place
kind_of-value_in : (row : List Value) (column : ℕ)
    → kind_of (value_in row column) ≡ get_or (map kind_of row) column kinds.Num
kind_of-value_in row column = sym (lists.get_or-map kind_of row column (values.Num 0))

kinds-key_of : (ks : List Kind) (key : List ℕ) (row : List Value) → map kind_of row ≡ ks
    → map kind_of (key_of key row) ≡ kinds_at ks key
kinds-key_of ks key row e =
    map-map kind_of (λ column. value_in row column) key
    ∙ (λ i. map (λ column. (kind_of-value_in row column ∙ ap (λ all. get_or all column kinds.Num) e) i) key)

-- keys have the kinds of their columns
pub HaveKinds-keys : (ks : List Kind) (key : List ℕ) (rows : List (List Value)) → HaveKinds ks rows
    → HaveKinds (kinds_at ks key) (map (key_of key) rows)
HaveKinds-keys ks key [] h = tt
HaveKinds-keys ks key (row ∷ rows) h = (kinds-key_of ks key row h.0, HaveKinds-keys ks key rows h.1)

-- the keys of rows that never fall
pub NeverFall-keys : (key : List ℕ) (rows : List (List Value))
    → ((i j : ℕ) → i ≤ j → j < length rows → is_gt (key_cmp key (get_or rows i []) (get_or rows j [])) ≡ false)
    → NeverFall (map (key_of key) rows)
NeverFall-keys key rows rising i j l m =
    let long = length-map rows (key_of key) in
    rw (
      get_or-map (key_of key) rows i [] [] (omega (arith, l, m, long)),
      get_or-map (key_of key) rows j [] [] (omega (arith, m, long)),
    )
    (rising i j l (omega (arith, m, long)))

-- ---- where granules begin

-- a granule begins before the rows are over
pub granule_begins : (granularity rows k : ℕ) → 1 ≤ granularity → k < granule_count granularity rows
    → k * granularity < rows
granule_begins granularity rows k l m =
    let count = granule_count granularity rows in
    let round = (div_ceil_times rows granularity l).1 in
    let up : (k + 1) * granularity ≤ count * granularity = mul-le-mul_right granularity (omega arith) in
    let next : (k + 1) * granularity ≡ k * granularity + granularity = omega arith in
    omega (arith, round, up, next)

start-at : (granularity rows k d : ℕ) → k < granule_count granularity rows
    → get_or (granule_starts granularity rows) k d ≡ k * granularity
start-at granularity rows k d l =
    get_or-map-range_with_len (λ at. at * granularity) 0 (granule_count granularity rows) k k d l (omega arith)

length-starts : (granularity rows : ℕ) → length (granule_starts granularity rows) ≡ granule_count granularity rows
length-starts granularity rows =
    length-map-range_with_len (λ at. at * granularity) 0 (granule_count granularity rows)

-- one granule more
pub starts-more : (granularity n : ℕ)
    → map (λ at. at * granularity) (range_with_len 0 (n + 1))
    ≡ map (λ at. at * granularity) (range_with_len 0 n) ++ n * granularity ∷ []
starts-more granularity n = map-range_with_len_more (λ at. at * granularity) 0 n n (omega arith)

pub starts-below : (granularity rows : ℕ) → 1 ≤ granularity → All (λ at. at < rows) (granule_starts granularity rows)
starts-below granularity rows some k d l =
    let below : k < granule_count granularity rows = omega (arith, l, length-starts granularity rows) in
    rw (start-at granularity rows k d below) (granule_begins granularity rows k some below)

-- ---- the first keys

-- what is made of numbers side by side is the same where each of them gives the same
same-made : {X : Type 0} (f g : ℕ → X) (a n end : ℕ) → a + n ≡ end → ((k : ℕ) → k < end → f k ≡ g k)
    → map f (range_with_len a n) ≡ map g (range_with_len a n)
same-made f g a zero end e h = refl
same-made f g a (suc n) end e h = λ i.
    h a (omega (arith, e)) i ∷ same-made f g (a + 1) n end (omega (arith, e)) h i

-- a row of the values at some indexes is the key of the row at one of them
row_at-column_at : (rows : KindedRows) (indexes key : List ℕ) (k : ℕ) → k < length indexes
    → row_at (values_of (map (column_at rows indexes) key)) k
    ≡ key_of key (get_or rows.rows (get_or indexes k 0) [])
row_at-column_at rows indexes [] k l = refl
row_at-column_at rows indexes (column ∷ key) k l =
    let one : get_or (column_at rows indexes column).values k (values.Num 0)
    ≡ value_in (get_or rows.rows (get_or indexes k 0) []) column =
    get_or-map (λ at. get_or (column_of rows column).values at (values.Num 0)) indexes k 0 (values.Num 0) l
    ∙ lists.get_or-map (λ row. value_in row column) rows.rows (get_or indexes k 0) [] in
    λ i. one i ∷ row_at-column_at rows indexes key k l i

-- they are as many rows as indexes
rows_in-column_at : (rows : KindedRows) (indexes key : List ℕ) → 1 ≤ length key
    → rows_in (map (column_at rows indexes) key) ≡ length indexes
rows_in-column_at rows indexes [] l = absurd (omega (arith, l))
rows_in-column_at rows indexes (column ∷ key) l = length-map indexes _

-- each column is as long as the first
pub column_at-lengths : (rows : KindedRows) (indexes key : List ℕ) → 1 ≤ length key
    → All (λ (c : KindedValues). length c.values ≡ rows_in (map (column_at rows indexes) key)) (map (column_at rows indexes) key)
column_at-lengths rows indexes key some k d l =
    let below : k < length key = omega (arith, l, length-map key (column_at rows indexes)) in
    rw (get_or-map (column_at rows indexes) key k 0 d below)
    (length-map indexes _ ∙ sym (rows_in-column_at rows indexes key some))

-- the rows of the key's values where granules begin are the first keys
pub first_keys-column_at : (rows : KindedRows) (key : List ℕ) (granularity : ℕ) → 1 ≤ length key → 1 ≤ granularity
    → rows_joined (map (column_at rows (granule_starts granularity (length rows.rows))) key)
    ≡ (index_of granularity (kinds_at rows.kinds key) (map (key_of key) rows.rows)).firsts
first_keys-column_at rows key granularity keyed some =
    let count = granule_count granularity (length rows.rows) in
    let starts = granule_starts granularity (length rows.rows) in
    let columns = map (column_at rows starts) key in
    let keys = map (key_of key) rows.rows in
    let kinds_are : kinds_of columns ≡ kinds_at rows.kinds key =
    map-map (λ (c : KindedValues). c.kind) (column_at rows starts) key in
    let many : rows_in columns ≡ count =
    rows_in-column_at rows starts key keyed ∙ length-starts granularity (length rows.rows) in
    let each : (k : ℕ) → k < count → row_at (values_of columns) k ≡ get_or keys (k * granularity) [] =
    λ k l.
    row_at-column_at rows starts key k (omega (arith, l, length-starts granularity (length rows.rows)))
    ∙ ap (λ at. key_of key (get_or rows.rows at [])) (start-at granularity (length rows.rows) k 0 l)
    ∙ sym (get_or-map (key_of key) rows.rows (k * granularity) [] [] (granule_begins granularity (length rows.rows) k some l)) in
    let rows_are : rows_of (values_of columns) (rows_in columns)
    ≡ map (λ at. get_or keys (at * granularity) []) (range_with_len 0 (granule_count granularity (length keys))) =
    ap (rows_of (values_of columns)) many
    ∙ same-made (row_at (values_of columns)) (λ at. get_or keys (at * granularity) []) 0 count count (omega arith) each
    ∙ ap (λ n. map (λ at. get_or keys (at * granularity) []) (range_with_len 0 (granule_count granularity n)))
    (sym (length-map rows.rows (key_of key))) in
    λ i. record { kinds = kinds_are i; rows = rows_are i }
