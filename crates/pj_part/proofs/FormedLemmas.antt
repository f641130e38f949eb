-- What is written of a column, and the index of keys that never fall, are formed.
use Rattle.std.proofs.Common.{◌≡◌, ℕ, zero, suc, ◌+◌, ◌-◌, ◌*◌, ◌<◌, ◌≤◌, min, false, List, [], ◌∷◌, length}
use Rattle.std.proofs.Common.{map, drop, get_or, refl, sym, ap, subst, ◌∙◌, arith, add-one, length-append, length-drop}
use Rattle.std.proofs.Math.Nat.{mul-le-mul_right}
use Rattle.std.specs.Prelude.{sum}
use Rattle.std.specs.List.{AllByRecursion, range_with_len}
use Rattle.std.specs.Ordering.{is_gt}
use Rattle.std.proofs.lemmas.Grind.{div_ceil_times}
use Rattle.std.proofs.lemmas.List.{length-take}
use Rattle.std.proofs.lemmas.List.FromFn.{length-map-range_with_len, get_or-map-range_with_len, sum_by-map-range_with_len_more}
use Rattle.std.proofs.lemmas.Simd.{map-map}
use Rattle.pj_value.specs.declared.value.Kind.{Kind}
use Rattle.pj_value.specs.declared.value.Value.{Value}
use Rattle.pj_value.specs.Values.{kind_of}
use Rattle.pj_value.specs.Columns.{KindedValues}
use Rattle.pj_value.specs.Order.{row_cmp}
use Rattle.pj_layout.specs.declared.blob.Mark.{Mark}
use Rattle.pj_layout.specs.Granules.{granule}
use Rattle.pj_layout.specs.Blobs.{chunk, chunks, blob, marks_from}
use Rattle.pj_part.specs.Formed.{granule_count, granule_rows, AreSideBySide}
use Rattle.pj_part.specs.Agreement.{index_of}
use Rattle.pj_part.specs.Laws.{WrittenColumnsAreFormed, IndexesOfKeysAreFormed, GranulesLieInTheirBlobs, GranulesHaveTheRows}

-- ---- marks

-- the marks of granules stand side by side over their blob
marks_from-side_by_side : (here end : ℕ) (cs : List KindedValues) → here + length (blob cs) ≡ end
    → AreSideBySide here end (marks_from here cs)
marks_from-side_by_side here end [] e = omega (arith, e)
marks_from-side_by_side here end (c ∷ cs) e = (
  refl,
  marks_from-side_by_side (here + length (granule c)) end cs
      (omega (arith, e, length-append (granule c) (blob cs))),
)

-- they tell how many values each granule has
marks_from-rows : (here : ℕ) (cs : List KindedValues)
    → map (λ (m : Mark). m.rows) (marks_from here cs) ≡ map (λ (c : KindedValues). length c.values) cs
marks_from-rows here [] = refl
marks_from-rows here (c ∷ cs) =
    ap (λ ns. length c.values ∷ ns) (marks_from-rows (here + length (granule c)) cs)

-- which are as many as the granularity says, and in the last one the rest
length-chunk : (granularity : ℕ) (column : KindedValues) (at : ℕ)
    → length (chunk granularity column at).values ≡ min granularity (length column.values - at * granularity)
length-chunk granularity column at =
    length-take granularity (drop (at * granularity) column.values)
    ∙ ap (min granularity) (length-drop (at * granularity) column.values)

chunks-rows : (granularity : ℕ) (column : KindedValues)
    → map (λ (c : KindedValues). length c.values) (chunks granularity column)
    ≡ granule_rows granularity (length column.values)
chunks-rows granularity column =
    let many = range_with_len 0 (granule_count granularity (length column.values)) in
    map-map (λ (c : KindedValues). length c.values) (chunk granularity column) many
    ∙ (λ i. map (λ at. length-chunk granularity column at i) many)

pub written_columns : {B : Type 0} (size : B → ℕ) → WrittenColumnsAreFormed size
written_columns size granularity file column some e long = record {
  marks = subst (AreSideBySide 0 (size file.blob)) (sym e)
      (marks_from-side_by_side 0 (size file.blob) (chunks granularity column) (omega (arith, long)));
  granules = ap (map (λ (m : Mark). m.rows)) e ∙ marks_from-rows 0 (chunks granularity column)
      ∙ chunks-rows granularity column;
}

-- marks that stand side by side end where they are to end
side_by_side-ends : (here end : ℕ) (ms : List Mark) → AreSideBySide here end ms → here ≤ end
side_by_side-ends here end [] a = omega (arith, a)
side_by_side-ends here end (m ∷ ms) a = omega (arith, side_by_side-ends (here + m.size) end ms a.1)

-- and none of them ends behind that
side_by_side-within : (here end : ℕ) (ms : List Mark) → AreSideBySide here end ms
    → AllByRecursion (λ (m : Mark). m.at + m.size ≤ end) ms
side_by_side-within here end [] a = tt
side_by_side-within here end (m ∷ ms) a = (
  omega (arith, a.0, side_by_side-ends (here + m.size) end ms a.1),
  side_by_side-within (here + m.size) end ms a.1,
)

pub granules_within : {B : Type 0} (size : B → ℕ) → GranulesLieInTheirBlobs size
granules_within size granularity rows file formed =
    side_by_side-within 0 (size file.blob) file.marks formed.marks

-- the first granules have as many rows as the granularity says, until there are no more
sum-granules : (granularity rows n : ℕ)
    → sum (map (λ at. min granularity (rows - at * granularity)) (range_with_len 0 n))
    ≡ min (n * granularity) rows
sum-granules granularity rows zero = omega arith
sum-granules granularity rows (suc n) =
    let f : ℕ → ℕ = λ at. min granularity (rows - at * granularity) in
    let more = sum_by-map-range_with_len_more (λ (k : ℕ). k) f 0 n n (omega arith) in
    let next : suc n * granularity ≡ n * granularity + granularity = omega arith in
    ap (λ m. sum (map f (range_with_len 0 m))) (sym (add-one n)) ∙ more
    ∙ omega (arith, sum-granules granularity rows n, next)

pub granules_have_the_rows : {B : Type 0} (size : B → ℕ) → GranulesHaveTheRows size
granules_have_the_rows size granularity rows file some formed =
    let round = (div_ceil_times rows granularity some).0 in
    ap sum formed.granules
    ∙ sum-granules granularity rows (granule_count granularity rows) ∙ omega (arith, round)

-- ---- indexes

-- a granule begins before the rows are over
granule_stands : (granularity rows k : ℕ) → 1 ≤ granularity → k < granule_count granularity rows
    → k * granularity < rows
granule_stands granularity rows k l m =
    let count = granule_count granularity rows in
    let round = (div_ceil_times rows granularity l).1 in
    let up : (k + 1) * granularity ≤ count * granularity = mul-le-mul_right granularity (omega arith) in
    let next : (k + 1) * granularity ≡ k * granularity + granularity = omega arith in
    omega (arith, round, up, next)

-- what holds of all holds of the one at an index
All-at : {X : Type 0} (P : X → Type 0) (xs : List X) (k : ℕ) (d : X) → AllByRecursion P xs → k < length xs
    → P (get_or xs k d)
All-at P [] k d a l = absurd (omega (arith, l))
All-at P (x ∷ xs) zero d a l = a.0
All-at P (x ∷ xs) (suc k) d a l = All-at P xs k d a.1 (omega (arith, l))

-- where it holds of each index of a range, it holds of what is made of these
All-made : {X : Type 0} (P : X → Type 0) (f : ℕ → X) (a n end : ℕ) → a + n ≡ end
    → ((k : ℕ) → k < end → P (f k)) → AllByRecursion P (map f (range_with_len a n))
All-made P f a zero end e p = tt
All-made P f a (suc n) end e p =
    (p a (omega (arith, e)), All-made P f (a + 1) n end (omega (arith, e)) p)

-- the first key of a granule
first_key : (granularity : ℕ) (key : List Kind) (keys : List (List Value)) (k : ℕ)
    → k < granule_count granularity (length keys)
    → get_or (index_of granularity key keys).firsts.rows k [] ≡ get_or keys (k * granularity) []
first_key granularity key keys k l =
    get_or-map-range_with_len (λ at. get_or keys (at * granularity) []) 0 (granule_count granularity (length keys)) k k [] l (omega arith)

pub indexes_of_keys : IndexesOfKeysAreFormed
indexes_of_keys granularity key keys some shape rising =
    let count = granule_count granularity (length keys) in
    let firsts = (index_of granularity key keys).firsts.rows in
    let len : length firsts ≡ count =
    length-map-range_with_len (λ at. get_or keys (at * granularity) []) 0 count in
    record {
      kinds = refl;
      shape = All-made (λ row. map kind_of row ≡ key) (λ at. get_or keys (at * granularity) []) 0 count count (omega arith)
          (λ k l. All-at (λ row. map kind_of row ≡ key) keys (k * granularity) [] shape
          (granule_stands granularity (length keys) k some l));
      granules = len;
      last = λ l. All-at (λ row. map kind_of row ≡ key) keys (length keys - 1) [] shape (omega arith);
      rising = λ i j l m.
          let stands = granule_stands granularity (length keys) j some (omega (arith, m, len)) in
          let up : i * granularity ≤ j * granularity = mul-le-mul_right granularity l in
          subst (λ a. is_gt (row_cmp a (get_or firsts j [])) ≡ false) (sym (first_key granularity key keys i (omega (arith, l, m, len))))
          (subst (λ b. is_gt (row_cmp (get_or keys (i * granularity) []) b) ≡ false) (sym (first_key granularity key keys j (omega (arith, m, len))))
          (rising (i * granularity) (j * granularity) up stands));
      closed = λ i m.
          let stands = granule_stands granularity (length keys) i some (omega (arith, m, len)) in
          subst (λ a. is_gt (row_cmp a (get_or keys (length keys - 1) [])) ≡ false) (sym (first_key granularity key keys i (omega (arith, m, len))))
          (rising (i * granularity) (length keys - 1) (omega (arith, stands)) (omega (arith, stands)));
    }
