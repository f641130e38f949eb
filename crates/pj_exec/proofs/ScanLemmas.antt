-- The parts that are read one after the other, and the granules that they have.
use Rattle.std.proofs.Common.{◌≡◌, ℕ, zero, suc, ◌+◌, ◌-◌, ◌*◌, ◌<◌, ◌≤◌}
use Rattle.std.proofs.Common.{List, [], ◌∷◌, ◌++◌, length, map, take, drop, get_or}
use Rattle.std.proofs.Common.{refl, sym, ap, subst, ◌∙◌, arith}
use Rattle.std.specs.List.{AllByRecursion, AllZip, flat_map}
use Rattle.std.proofs.lemmas.Grind.{div_ceil_times, flat_map-append}
use Rattle.std.proofs.lemmas.List.Sums.{sum_by_more, sum_by_more_le}
use Rattle.std.proofs.lemmas.List.{take_all, take_more, map-append, append-nil}
use Rattle.pj_value.specs.declared.value.Value.{Value}
use Rattle.pj_value.specs.Rows.{KindedRows, HaveKinds}
use Rattle.pj_part.specs.declared.part.Part.{Part}
use Rattle.pj_part.specs.Formed.{granule_count}
use Rattle.pj_read.specs.Spans.{in_span}
use Rattle.pj_exec.specs.Scans.{granules_of, granules_in}
use Rattle.pj_exec.specs.Layout.{cut_to}

-- ---- lists

-- what holds of two lists, place by place, holds at an index
pub AllZip-at : {X Y : Type 0} (R : X → Y → Type 0) (xs : List X) (ys : List Y) (k : ℕ) (d : X) (e : Y)
    → AllZip R xs ys → k < length xs → R (get_or xs k d) (get_or ys k e)
AllZip-at R [] ys k d e a l = absurd (omega (arith, l))
AllZip-at R (x ∷ xs) [] k d e a l = absurd a
AllZip-at R (x ∷ xs) (y ∷ ys) zero d e a l = a.0
AllZip-at R (x ∷ xs) (y ∷ ys) (suc k) d e a l = AllZip-at R xs ys k d e a.1 (omega (arith, l))

pub AllZip-length : {X Y : Type 0} (R : X → Y → Type 0) (xs : List X) (ys : List Y) → AllZip R xs ys
    → length xs ≡ length ys
AllZip-length R [] [] a = refl
AllZip-length R [] (y ∷ ys) a = absurd a
AllZip-length R (x ∷ xs) [] a = absurd a
AllZip-length R (x ∷ xs) (y ∷ ys) a = ap suc (AllZip-length R xs ys a.1)

-- what holds of all holds at an index
pub All-at : {X : Type 0} (P : X → Type 0) (xs : List X) (k : ℕ) (d : X) → AllByRecursion P xs → k < length xs
    → P (get_or xs k d)
All-at P [] k d a l = absurd (omega (arith, l))
All-at P (x ∷ xs) zero d a l = a.0
All-at P (x ∷ xs) (suc k) d a l = All-at P xs k d a.1 (omega (arith, l))

-- one item more
pub map-take_more : {Y : Type 0} (f : ℕ → Y) (xs : List ℕ) (i : ℕ) → i < length xs
    → map f (take (i + 1) xs) ≡ map f (take i xs) ++ f (get_or xs i 0) ∷ []
map-take_more f xs i l = ap (map f) (take_more xs i 0 l) ∙ map-append f (take i xs) (get_or xs i 0 ∷ [])

-- rows of two lists have the kinds of each
pub HaveKinds-append : (kinds : List _) (xs ys : List (List Value)) → HaveKinds kinds xs → HaveKinds kinds ys
    → HaveKinds kinds (xs ++ ys)
HaveKinds-append kinds [] ys h k = k
HaveKinds-append kinds (x ∷ xs) ys h k = (h.0, HaveKinds-append kinds xs ys h.1 k)

-- ---- all granules of a part

-- the rows in all granules are all rows
pub all-rows : (granularity n : ℕ) (rows : KindedRows) → 1 ≤ granularity
    → n ≡ granule_count granularity (length rows.rows)
    → in_span granularity (record { from = 0; to = n }) rows ≡ rows
all-rows granularity n rows some e =
    let round = (div_ceil_times (length rows.rows) granularity some).0 in
    let there : length rows.rows ≤ n * granularity - 0 =
    subst (λ m. length rows.rows ≤ m * granularity - 0) (sym e) (omega (arith, round)) in
    let none : 0 * granularity ≡ 0 = omega arith in
    let all : take (n * granularity - 0 * granularity) (drop (0 * granularity) rows.rows) ≡ rows.rows =
    ap (λ m. take (n * granularity - m) (drop m rows.rows)) none
    ∙ take_all (n * granularity - 0) rows.rows there in
    λ i. record { kinds = rows.kinds; rows = all i }

-- ---- one part of some

module _ {B : Type 0} (parts : List (Part B)) (i : ℕ) (part : Part B) (l : i < length parts)
    (part_is : part ≡ get_or parts i part) where
  -- what holds of each part holds of one
  pub part-is : (P : Part B → Type 0) → AllByRecursion P parts → P part
  part-is P all = subst P (sym part_is) (All-at P parts i part all l)

  pub part-zip : {Y : Type 0} (R : Part B → Y → Type 0) (ys : List Y) (d : Y) → AllZip R parts ys
      → R part (get_or ys i d)
  part-zip R ys d all = subst (λ p. R p (get_or ys i d)) (sym part_is) (AllZip-at R parts ys i part d all l)

  -- the granules of the parts before it, and its own
  pub granules-more : (columns : List ℕ) → granules_in columns (take (i + 1) parts)
      ≡ granules_in columns (take i parts) + length columns * granules_of part
  granules-more columns =
      sum_by_more (λ (p : Part B). length columns * granules_of p) parts i part l
      ∙ ap (λ p. granules_in columns (take i parts) + length columns * granules_of p) (sym part_is)

  -- they are no more than those of all
  pub granules-more_le : (columns : List ℕ)
      → granules_in columns (take i parts) + length columns * granules_of part ≤ granules_in columns parts
  granules-more_le columns =
      let before = granules_in columns (take i parts) in
      subst (λ p. before + length columns * granules_of p ≤ granules_in columns parts) (sym part_is)
      (sum_by_more_le (λ (p : Part B). length columns * granules_of p) parts i part l)

-- the rows of one part more
pub rows-more : (columns : List ℕ) (all : List (List (List Value))) (i : ℕ) (d : List (List Value))
    → i < length all
    → flat_map (cut_to columns) (take (i + 1) all)
    ≡ flat_map (cut_to columns) (take i all) ++ cut_to columns (get_or all i d)
rows-more columns all i d l =
    ap (flat_map (cut_to columns)) (take_more all i d l)
    ∙ flat_map-append (cut_to columns) (take i all) (get_or all i d ∷ [])
    ∙ ap (λ rows. flat_map (cut_to columns) (take i all) ++ rows)
    (append-nil (cut_to columns (get_or all i d)))

-- the first parts, as many as there are, are all
pub rows-all : {X : Type 0} (R : X → List (List Value) → Type 0) (columns : List ℕ) (xs : List X)
    (all : List (List (List Value))) → AllZip R xs all
    → flat_map (cut_to columns) (take (length xs) all) ≡ flat_map (cut_to columns) all
rows-all R columns xs all held =
    ap (flat_map (cut_to columns)) (take_all (length xs) all (omega (arith, AllZip-length R xs all held)))
