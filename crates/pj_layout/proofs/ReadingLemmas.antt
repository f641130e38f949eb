-- From bytes that no test refuses to the values in them.
use Rattle.std.proofs.Common.{◌≡◌, ℕ, ◌*◌, ◌<◌, ◌≤◌, true, List, [], ◌∷◌, ◌++◌, length, map, take, drop}
use Rattle.std.proofs.Common.{refl, sym, ap, subst, ◌∙◌, arith, take-append-drop}
use Rattle.std.specs.Prelude.{◌==◌, nat_le}
use Rattle.std.specs.List.{AllByRecursion, flat_map}
use Rattle.std.specs.Int.{bytes_low_first}
use Rattle.std.proofs.lemmas.Bool.{true≢false, and_parts, and_from, leb-true, le-leb, eqb-true}
use Rattle.std.proofs.lemmas.List.{length-map, length-take-le, take_all}
use Rattle.pj_value.specs.declared.value.Kind.{Kind}
use Rattle.pj_value.specs.declared.value.Kind.TheVariants as kinds
use Rattle.pj_value.specs.declared.value.Value.TheVariants as values
use Rattle.pj_value.specs.Columns.{KindedValues}
use Rattle.pj_value.specs.NumberBytes.{AreBytes, number_in_bytes}
use Rattle.pj_value.specs.Summaries.{IsOfKind, number_bytes}
use Rattle.pj_value.proofs.NumberBytesLemmas.{bytes_low_first-number_in_bytes}
use Rattle.pj_layout.specs.Granules.{tag_of, text_of, joined, text_ends, values_bytes, IsGranuleOf}
use Rattle.pj_layout.specs.Damage.{has_tag, has_rows, numbers_in, are_ends, are_values, is_granularity, last_end}
use Rattle.pj_layout.specs.Reading.{texts_in, values_in}
use Rattle.pj_layout.proofs.ByteLemmas.{AreBytes-take, AreBytes-drop}
use Rattle.pj_layout.proofs.KindLemmas.{number_of-numbers, text_of-texts, text_of-numbers}
use Rattle.pj_layout.proofs.KindLemmas.{numbers-of_kind, texts-of_kind}
use Rattle.pj_layout.proofs.NumberLemmas.{length-numbers_in, numbers_in-spelled, numbers_in-fit}
use Rattle.pj_layout.proofs.RisingLemmas.{are_ends-parts, last_end-fit}
use Rattle.pj_layout.proofs.EndLemmas.{text_ends-is}
use Rattle.pj_layout.proofs.CutLemmas.{ends_from-texts_in, AreBytes-texts_in, length-texts_in}

-- the texts that were cut have these ends, and are all of the bytes
record CutsAll (rows : ℕ) (bytes : List ℕ) : Type 0 where
  long : 8 * rows ≤ length bytes
  ends : text_ends (texts_in 0 (numbers_in rows bytes) (drop (8 * rows) bytes)) ≡ numbers_in rows bytes
  all : joined (texts_in 0 (numbers_in rows bytes) (drop (8 * rows) bytes)) ≡ drop (8 * rows) bytes
  last : last_end 0 (numbers_in rows bytes) ≡ length (drop (8 * rows) bytes)

cuts_all : (rows : ℕ) (bytes : List ℕ) → are_values kinds.Text rows bytes ≡ true → CutsAll rows bytes
cuts_all rows bytes h =
    let ends = numbers_in rows bytes in
    let behind = drop (8 * rows) bytes in
    let both = and_parts (nat_le (8 * rows) (length bytes)) (are_ends ends (length behind)) h in
    let parts = are_ends-parts ends (length behind) both.1 in
    let cut = ends_from-texts_in 0 ends behind parts.0 (omega (arith, parts.1)) in
    record {
      long = leb-true (8 * rows) (length bytes) both.0;
      ends = text_ends-is (texts_in 0 ends behind) ∙ cut.0;
      all = cut.1;
      last = parts.1;
    }

-- values that were read are spelled as they stood
values_in-spelled : (kind : Kind) (rows : ℕ) (bytes : List ℕ) → AreBytes bytes
    → are_values kind rows bytes ≡ true → values_bytes kind (values_in kind rows bytes).values ≡ bytes
values_in-spelled kinds.Num rows bytes a h =
    let long : length bytes ≡ 8 * rows = eqb-true (length bytes) (8 * rows) h in
    ap (flat_map number_bytes) (number_of-numbers (numbers_in rows bytes))
    ∙ numbers_in-spelled rows bytes a (omega (arith, long)) ∙ take_all (8 * rows) bytes (omega (arith, long))
values_in-spelled kinds.Text rows bytes a h =
    let cut = cuts_all rows bytes h in
    ap (λ ts. flat_map number_bytes (text_ends ts) ++ joined ts)
    (text_of-texts (texts_in 0 (numbers_in rows bytes) (drop (8 * rows) bytes)))
    ∙ (λ i. flat_map number_bytes (cut.ends i) ++ cut.all i)
    ∙ ap (λ bs. bs ++ drop (8 * rows) bytes) (numbers_in-spelled rows bytes a cut.long)
    ∙ take-append-drop (8 * rows) bytes

pub length-values_in : (kind : Kind) (rows : ℕ) (bytes : List ℕ)
    → length (values_in kind rows bytes).values ≡ rows
length-values_in kinds.Num rows bytes =
    length-map (numbers_in rows bytes) (λ n. values.Num n) ∙ length-numbers_in rows bytes
length-values_in kinds.Text rows bytes =
    let behind = drop (8 * rows) bytes in
    length-map (texts_in 0 (numbers_in rows bytes) behind) (λ t. values.Text t)
    ∙ length-texts_in 0 (numbers_in rows bytes) behind ∙ length-numbers_in rows bytes

kind-values_in : (kind : Kind) (rows : ℕ) (bytes : List ℕ) → (values_in kind rows bytes).kind ≡ kind
kind-values_in kinds.Num rows bytes = refl
kind-values_in kinds.Text rows bytes = refl

values_in-of_kind : (kind : Kind) (rows : ℕ) (bytes : List ℕ) → AreBytes bytes
    → are_values kind rows bytes ≡ true
    → AllByRecursion (IsOfKind (values_in kind rows bytes).kind) (values_in kind rows bytes).values
values_in-of_kind kinds.Num rows bytes a h =
    let long : length bytes ≡ 8 * rows = eqb-true (length bytes) (8 * rows) h in
    numbers-of_kind (numbers_in rows bytes) (numbers_in-fit rows bytes a (omega (arith, long)))
values_in-of_kind kinds.Text rows bytes a h =
    texts-of_kind (texts_in 0 (numbers_in rows bytes) (drop (8 * rows) bytes))
    (AreBytes-texts_in 0 (numbers_in rows bytes) (drop (8 * rows) bytes) (AreBytes-drop (8 * rows) bytes a))

values_in-short : (kind : Kind) (rows : ℕ) (bytes : List ℕ) → AreBytes bytes
    → are_values kind rows bytes ≡ true
    → length (joined (map text_of (values_in kind rows bytes).values)) < 18446744073709551616
values_in-short kinds.Num rows bytes a h = omega (arith, ap length (text_of-numbers (numbers_in rows bytes)))
values_in-short kinds.Text rows bytes a h =
    let cut = cuts_all rows bytes h in
    let ts = texts_in 0 (numbers_in rows bytes) (drop (8 * rows) bytes) in
    omega (
      arith,
      ap length (ap joined (text_of-texts ts) ∙ cut.all),
      cut.last,
      last_end-fit 0 (numbers_in rows bytes) (omega arith) (numbers_in-fit rows bytes a cut.long),
    )

-- bytes that no test refuses are the granule of the values that stand in them
pub is_granule : (kind : Kind) (rows : ℕ) (bytes : List ℕ) → AreBytes bytes → has_tag kind bytes ≡ true
    → has_rows rows bytes ≡ true → is_granularity rows ≡ true → are_values kind rows (drop 5 bytes) ≡ true
    → IsGranuleOf kind rows (values_in kind rows (drop 5 bytes)) bytes
is_granule kind rows [] a t r g v = absurd (true≢false (sym t))
is_granule kind rows (b ∷ bytes) a t r g v =
    let behind = drop 4 bytes in
    let ab = AreBytes-drop 4 bytes a.1 in
    let column = values_in kind rows behind in
    let told = and_parts (nat_le 5 (length (b ∷ bytes))) (number_in_bytes (take 4 bytes) == rows) r in
    let long : length (take 4 bytes) ≡ 4 =
    length-take-le 4 bytes (omega (arith, leb-true 5 (length (b ∷ bytes)) told.0)) in
    let head : bytes_low_first 0 4 rows ≡ take 4 bytes =
    (λ i. bytes_low_first 0 (sym long i) (sym (eqb-true (number_in_bytes (take 4 bytes)) rows told.1) i))
    ∙ bytes_low_first-number_in_bytes (take 4 bytes) (AreBytes-take 4 bytes a.1) in
    let range = and_parts (nat_le 1 rows) (nat_le rows 65536) g in
    let count = length-values_in kind rows behind in
    let kind_is = kind-values_in kind rows behind in
    record {
      kind_is = kind_is;
      rows_are = count;
      has_granule = record {
        some = omega (arith, count, leb-true 1 rows range.0);
        few = omega (arith, count, leb-true rows 65536 range.1);
        of_kind = values_in-of_kind kind rows behind ab v;
        short = values_in-short kind rows behind ab v;
      };
      bytes_are =
          (λ i. tag_of (kind_is i) ∷ (bytes_low_first 0 4 (count i) ++ values_bytes (kind_is i) column.values))
          ∙ (λ i. sym (eqb-true b (tag_of kind) t) i ∷ (head i ++ values_in-spelled kind rows behind ab v i))
          ∙ ap (λ bs. b ∷ bs) (take-append-drop 4 bytes);
    }

-- the same of a column that was read from what is behind the number of rows
pub is_granule-read : (kind of : Kind) (rows : ℕ) (bytes part : List ℕ) (column : KindedValues) → kind ≡ of
    → part ≡ drop 5 bytes → AreBytes bytes → has_tag kind bytes ≡ true → has_rows rows bytes ≡ true
    → 1 ≤ rows → rows ≤ 65536 → (are_values of rows part ≡ true) × (column ≡ values_in of rows part)
    → IsGranuleOf kind rows column bytes
is_granule-read kind of rows bytes part column k p a t r l m h =
    subst (λ x. IsGranuleOf kind rows x bytes)
    (sym (h.1 ∙ (λ i. values_in (sym k i) rows (p i))))
    (is_granule kind rows bytes a t r
    (and_from (nat_le 1 rows) (nat_le rows 65536) (le-leb 1 rows l) (le-leb rows 65536 m))
    ((λ i. are_values (k i) rows (sym p i)) ∙ h.0))
