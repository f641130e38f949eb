-- Chunks and other ranges of a column.
use Rattle.std.proofs.Common.{◌≡◌, ℕ, zero, suc, ◌+◌, ◌-◌, ◌*◌, ◌/◌, ◌%◌, ◌<◌, ◌≤◌, min, List, [], ◌∷◌, ◌++◌, length}
use Rattle.std.proofs.Common.{map, take, drop, sym, ap, ◌∙◌, arith, add-one, length-drop}
use Rattle.std.proofs.Math.Nat.{mul-le-mul_right}
use Rattle.std.specs.Prelude.{slice_range}
use Rattle.std.specs.List.{AllByRecursion, flat_map, range_with_len}
use Rattle.std.proofs.lemmas.Grind.{div_ceil_times, flat_map-append}
use Rattle.std.proofs.lemmas.List.{append-nil, drop-map, length-take-le, take-map, take_all, take_min}
use Rattle.std.proofs.lemmas.List.FromFn.{length-map-range_with_len, map-range_with_len_more}
use Rattle.std.proofs.lemmas.List.FromFn.{take-map-range_with_len}
use Rattle.pj_value.specs.declared.value.Kind.TheVariants as kinds
use Rattle.pj_value.specs.declared.value.Value.{Value}
use Rattle.pj_value.specs.declared.value.Value.TheVariants as values
use Rattle.pj_value.specs.Values.{kind_of, Fits}
use Rattle.pj_value.specs.Columns.{KindedValues, column_of_numbers, column_of_texts}
use Rattle.pj_value.specs.Summaries.{IsOfKind}
use Rattle.pj_layout.specs.Granules.{granule, HasGranule}
use Rattle.pj_layout.specs.Blobs.{column_range, chunk_count, chunk, chunks}
use Rattle.pj_layout.proofs.ByteLemmas.{take-next, All-range}
use Rattle.pj_layout.proofs.KindLemmas.{both-of_kind, texts-short}

-- the next chunk
pub chunks-next : (granularity : ℕ) (column : KindedValues) (k : ℕ) → k < chunk_count granularity column.values
    → take (k + 1) (chunks granularity column)
    ≡ take k (chunks granularity column) ++ chunk granularity column k ∷ []
chunks-next granularity column k l =
    let f = chunk granularity column in
    let n = chunk_count granularity column.values in
    take-map-range_with_len f 0 n (k + 1) (omega arith) ∙ map-range_with_len_more f 0 k k (omega arith)
    ∙ ap (λ cs. cs ++ f k ∷ []) (sym (take-map-range_with_len f 0 n k (omega arith)))

pub length-chunks : (granularity : ℕ) (column : KindedValues)
    → length (chunks granularity column) ≡ chunk_count granularity column.values
length-chunks granularity column =
    length-map-range_with_len (chunk granularity column) 0 (chunk_count granularity column.values)

-- all chunks are written, where so many are as there are by the number of values
pub chunks-written : (granularity : ℕ) (column : KindedValues) (len k : ℕ) → len ≡ length column.values
    → len / granularity + min 1 (len % granularity) ≤ k
    → take k (chunks granularity column) ≡ chunks granularity column
chunks-written granularity column len k e l =
    let count = ap (λ n. n / granularity + min 1 (n % granularity)) e in
    take_all k (chunks granularity column) (omega (arith, length-chunks granularity column, count))

-- a chunk begins before the values are over
pub chunk_stands : (granularity k : ℕ) (vs : List Value) → 1 ≤ granularity → k < chunk_count granularity vs
    → k * granularity < length vs
chunk_stands granularity k vs l m =
    let count = chunk_count granularity vs in
    let round = (div_ceil_times (length vs) granularity l).1 in
    let up : (k + 1) * granularity ≤ count * granularity = mul-le-mul_right granularity (omega arith) in
    let next : (k + 1) * granularity ≡ k * granularity + granularity = omega arith in
    omega (arith, round, up, next)

chunks-joined : (granularity : ℕ) (column : KindedValues) (n : ℕ)
    → flat_map (λ c. c.values) (map (chunk granularity column) (range_with_len 0 n))
    ≡ take (n * granularity) column.values
chunks-joined granularity column zero =
    let none : 0 ≡ 0 * granularity = omega arith in ap (λ m. take m column.values) none
chunks-joined granularity column (suc n) =
    let f = chunk granularity column in
    let so_far = map f (range_with_len 0 n) in
    let there : n * granularity + granularity ≡ suc n * granularity = omega arith in
    ap (λ m. flat_map (λ c. c.values) (map f (range_with_len 0 m))) (sym (add-one n))
    ∙ ap (flat_map (λ (c : KindedValues). c.values)) (map-range_with_len_more f 0 n n (omega arith))
    ∙ flat_map-append (λ (c : KindedValues). c.values) so_far (f n ∷ [])
    ∙ (λ i. chunks-joined granularity column n i ++ append-nil (f n).values i)
    ∙ take-next (n * granularity) granularity column.values ∙ ap (λ m. take m column.values) there

pub chunks-all : (granularity : ℕ) (column : KindedValues) → 1 ≤ granularity
    → flat_map (λ c. c.values) (chunks granularity column) ≡ column.values
chunks-all granularity column l =
    chunks-joined granularity column (chunk_count granularity column.values)
    ∙ take_all (chunk_count granularity column.values * granularity) column.values
    (div_ceil_times (length column.values) granularity l).0

-- ---- a range of a column

map-slice_range : {X Y : Type 0} (f : X → Y) (from to : ℕ) (xs : List X)
    → map f (slice_range xs from to) ≡ slice_range (map f xs) from to
map-slice_range f from to xs =
    sym (ap (take (to - from)) (drop-map f from xs) ∙ take-map f (to - from) (drop from xs))

pub column_range-numbers : (column : KindedValues) (ns : List ℕ) (from to : ℕ) → column ≡ column_of_numbers ns
    → column_of_numbers (slice_range ns from to) ≡ column_range column from to
column_range-numbers column ns from to e =
    ap (λ vs. record { kind = kinds.Num; values = vs }) (map-slice_range (λ n. values.Num n) from to ns)
    ∙ ap (λ c. column_range c from to) (sym e)

pub column_range-texts : (column : KindedValues) (ts : List (List ℕ)) (from to : ℕ) → column ≡ column_of_texts ts
    → column_of_texts (slice_range ts from to) ≡ column_range column from to
column_range-texts column ts from to e =
    ap (λ vs. record { kind = kinds.Text; values = vs }) (map-slice_range (λ t. values.Text t) from to ts)
    ∙ ap (λ c. column_range c from to) (sym e)

-- a range of a column has a granule
pub column_range-has_granule : (column : KindedValues) (from to : ℕ)
    → AllByRecursion (λ v. kind_of v ≡ column.kind) column.values → AllByRecursion Fits column.values
    → from < to → to ≤ length column.values → to ≤ from + 65536
    → length (granule (column_range column from to)) < 18446744073709551616 → HasGranule (column_range column from to)
column_range-has_granule column from to a b l m k s =
    let vs = slice_range column.values from to in
    let long : length vs ≡ to - from =
    length-take-le (to - from) (drop from column.values) (omega (arith, length-drop from column.values)) in
    let whole = both-of_kind column.kind column.values a b in
    let all = All-range (IsOfKind column.kind) from (to - from) column.values whole in
    record {
      some = omega (arith, long);
      few = omega (arith, long);
      of_kind = all;
      short = omega (arith, s, texts-short column.kind vs all);
    }

-- a chunk is such a range
pub column_range-chunk : (granularity : ℕ) (column : KindedValues) (k to : ℕ)
    → to ≡ k * granularity + min granularity (length column.values - k * granularity)
    → column_range column (k * granularity) to ≡ chunk granularity column k
column_range-chunk granularity column k to e =
    let from = k * granularity in
    let behind = drop from column.values in
    let many : to - from ≡ min granularity (length behind) = omega (arith, e, length-drop from column.values) in
    ap (λ vs. record { kind = column.kind; values = vs })
    (ap (λ n. take n behind) many ∙ take_min granularity behind)

pub length-column_range : (column : KindedValues) (from to : ℕ) → to ≤ length column.values
    → length (column_range column from to).values ≡ to - from
length-column_range column from to l =
    length-take-le (to - from) (drop from column.values) (omega (arith, length-drop from column.values))
