-- The granules of a column that a blob holds, by their indexes.
use Rattle.std.proofs.Common.{◌≡◌, ℕ, zero, suc, ◌+◌, ◌-◌, ◌*◌, ◌<◌, min, Option, Some, None, List, [], ◌∷◌, length, map, get_or}
use Rattle.std.proofs.Common.{refl, sym, ap, subst, ◌∙◌, arith}
use Rattle.std.specs.Prelude.{IfSome, slice_range}
use Rattle.std.specs.List.{AllByRecursion, AllZip}
use Rattle.std.proofs.lemmas.List.FromFn.{length-map-range_with_len, get_or-map-range_with_len}
use Rattle.std.proofs.lemmas.List.{get_or-map, length-map}
use Rattle.pj_value.specs.NumberBytes.{AreBytes}
use Rattle.pj_value.specs.Columns.{KindedValues}
use Rattle.pj_layout.specs.declared.blob.Mark.{Mark}
use Rattle.pj_layout.specs.Granules.{granule, HasGranule, IsGranuleOf}
use Rattle.pj_layout.specs.Blobs.{chunk_count, chunk, chunks, blob, marks}
use Rattle.pj_layout.specs.Damage.{damage}
use Rattle.pj_layout.specs.GranuleLaws.{DamageIsExact, GranulesTellTheirValues, GranulesStandAtTheirMarks, MarksGranule}
use Rattle.pj_part.specs.declared.part.ColumnFile.{ColumnFile}
use Rattle.pj_part.specs.Formed.{granule_count, granule_rows}
use Rattle.pj_part.specs.Agreement.{HoldsColumn}
use Rattle.pj_read.specs.Layout.{no_mark}

-- ---- lists

-- what holds of two lists, place by place, holds at an index
pub AllZip-at : {X Y : Type 0} (R : X → Y → Type 0) (xs : List X) (ys : List Y) (k : ℕ) (d : X) (e : Y)
    → AllZip R xs ys → k < length xs → R (get_or xs k d) (get_or ys k e)
AllZip-at R [] ys k d e a l = absurd (omega (arith, l))
AllZip-at R (x ∷ xs) [] k d e a l = absurd a
AllZip-at R (x ∷ xs) (y ∷ ys) zero d e a l = a.0
AllZip-at R (x ∷ xs) (y ∷ ys) (suc k) d e a l = AllZip-at R xs ys k d e a.1 (omega (arith, l))

pub AllZip-length : {X Y : Type 0} (R : X → Y → Type 0) (xs : List X) (ys : List Y) → AllZip R xs ys
    → length xs ≡ length ys
AllZip-length R [] [] a = refl
AllZip-length R [] (y ∷ ys) a = absurd a
AllZip-length R (x ∷ xs) [] a = absurd a
AllZip-length R (x ∷ xs) (y ∷ ys) a = ap suc (AllZip-length R xs ys a.1)

-- what holds of all holds at an index
pub All-at : {X : Type 0} (P : X → Type 0) (xs : List X) (k : ℕ) (d : X) → AllByRecursion P xs → k < length xs
    → P (get_or xs k d)
All-at P [] k d a l = absurd (omega (arith, l))
All-at P (x ∷ xs) zero d a l = a.0
All-at P (x ∷ xs) (suc k) d a l = All-at P xs k d a.1 (omega (arith, l))

-- ---- granules that are held

module _ {B : Type 0} (told : B → Option (List ℕ)) (granularity : ℕ) (file : ColumnFile B) (column : KindedValues)
    (held : HoldsColumn told granularity file column) where
  -- there is a mark for each chunk
  marks-many : GranulesStandAtTheirMarks → length file.marks ≡ chunk_count granularity column.values
  marks-many stand =
      let cs = chunks granularity column in
      ap length held.marks_are ∙ AllZip-length (MarksGranule (blob cs)) (marks cs) cs (stand cs)
      ∙ length-map-range_with_len (chunk granularity column) 0 (chunk_count granularity column.values)

  -- a chunk by its index
  chunks-at : (k : ℕ) (d : KindedValues) → k < chunk_count granularity column.values
      → get_or (chunks granularity column) k d ≡ chunk granularity column k
  chunks-at k d l =
      get_or-map-range_with_len (chunk granularity column) 0 (chunk_count granularity column.values) k k d l (omega arith)

  -- the granule of a chunk stands at its mark
  pub granule-stands : (k : ℕ) (d : Mark) → GranulesStandAtTheirMarks → k < length file.marks
      → MarksGranule (blob (chunks granularity column)) (get_or file.marks k d) (chunk granularity column k)
  granule-stands k d stand l =
      let cs = chunks granularity column in
      let piece = chunk granularity column k in
      subst (MarksGranule (blob cs) (get_or file.marks k d))
      (chunks-at k piece (omega (arith, marks-many stand)))
      (AllZip-at (MarksGranule (blob cs)) file.marks cs k d piece
      (subst (λ ms. AllZip (MarksGranule (blob cs)) ms cs) (sym held.marks_are) (stand cs)) l)

  -- and tells its values
  pub granule-whole : (k : ℕ) → GranulesStandAtTheirMarks → k < length file.marks
      → HasGranule (chunk granularity column k)
  granule-whole k stand l =
      let cs = chunks granularity column in
      let piece = chunk granularity column k in
      let many = marks-many stand in
      let there = chunks-at k piece (omega (arith, many)) in
      subst HasGranule there
      (All-at HasGranule cs k piece held.whole
      (omega (arith, many, length-map-range_with_len (chunk granularity column) 0 (chunk_count granularity column.values))))

  module _ (k : ℕ) (m : Mark) (bytes : List ℕ) (stand : GranulesStandAtTheirMarks) (l : k < length file.marks)
      (m_is : m ≡ get_or file.marks k no_mark)
      (given : IfSome (told file.blob) (λ all. bytes ≡ slice_range all m.at (m.at + m.size))) where
    -- the mark tells of the chunk
    m-stands : MarksGranule (blob (chunks granularity column)) m (chunk granularity column k)
    m-stands =
        subst (λ m. MarksGranule (blob (chunks granularity column)) m (chunk granularity column k)) (sym m_is)
        (granule-stands k no_mark stand l)

    -- the bytes at the mark, where the blob's are told
    m-bytes : bytes ≡ granule (chunk granularity column k)
    m-bytes =
        subst (λ o. IfSome o (λ all. bytes ≡ slice_range all m.at (m.at + m.size))) held.bytes given
        ∙ m-stands.stands

    -- what is read there are the values of the chunk
    pub read-chunk : (read : KindedValues) → GranulesTellTheirValues → IsGranuleOf file.kind m.rows read bytes
        → read ≡ chunk granularity column k
    read-chunk read tell is =
        tell read (chunk granularity column k) is.has_granule (granule-whole k stand l) (is.bytes_are ∙ m-bytes)

    -- and they aren't damaged
    pub chunk-undamaged : (at : ℕ) → DamageIsExact → AreBytes bytes → damage file.kind m.rows bytes ≡ Some at → ⊥
    chunk-undamaged at exact are damaged =
        let none = (exact file.kind m.rows bytes are).1 (
          chunk granularity column k,
          record {
            kind_is = sym held.kind;
            rows_are = sym m-stands.rows;
            has_granule = granule-whole k stand l;
            bytes_are = sym m-bytes;
          },
        ) in
        let bad : Some at ≡ None = sym damaged ∙ none in
        cc (bad)

-- ---- rows of granules

-- how many rows the granule at a mark has
pub marks-rows : (granularity rows : ℕ) (ms : List Mark) (k : ℕ) (d : Mark)
    → map (λ (m : Mark). m.rows) ms ≡ granule_rows granularity rows → k < length ms
    → (get_or ms k d).rows ≡ min granularity (rows - k * granularity)
marks-rows granularity rows ms k d e l =
    let f : ℕ → ℕ = λ at. min granularity (rows - at * granularity) in
    let n = granule_count granularity rows in
    let many : length ms ≡ n =
    sym (length-map ms (λ (m : Mark). m.rows)) ∙ ap length e ∙ length-map-range_with_len f 0 n in
    sym (get_or-map (λ (m : Mark). m.rows) ms k d 0 l)
    ∙ ap (λ ns. get_or ns k 0) e
    ∙ get_or-map-range_with_len f 0 n k k 0 (omega (arith, many)) (omega arith)
