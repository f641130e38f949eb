-- From values to their bytes, which are damaged nowhere and are those of no other values.
use Rattle.std.proofs.Common.{◌≡◌, ℕ, ◌*◌, ◌<◌, ◌≤◌, true, false, Some, None, List, [], length, get_or, map}
use Rattle.std.proofs.Common.{take, drop, refl, sym, ap, subst, ◌∙◌, arith, length-append}
use Rattle.std.specs.Prelude.{◌&&◌, ◌==◌, ◌↔◌, nat_le, not, Bool, Option, if◌then◌else◌}
use Rattle.std.specs.List.{AllByRecursion, flat_map}
use Rattle.std.specs.Int.{bytes_low_first}
use Rattle.std.proofs.lemmas.Bool.{and_parts, and_from, le-leb, eq-eqb}
use Rattle.std.proofs.lemmas.List.{append-nil, length-map}
use Rattle.pj_value.specs.declared.value.Kind.{Kind}
use Rattle.pj_value.specs.declared.value.Kind.TheVariants as kinds
use Rattle.pj_value.specs.declared.value.Value.{Value}
use Rattle.pj_value.specs.Columns.{KindedValues, column_of_numbers, column_of_texts}
use Rattle.pj_value.specs.NumberBytes.{AreBytes, number_in_bytes}
use Rattle.pj_value.specs.Summaries.{IsOfKind, number_bytes}
use Rattle.pj_value.proofs.NumberBytesLemmas.{number_in_bytes-bytes_low_first}
use Rattle.pj_layout.specs.Granules.{tag_of, number_of, text_of, joined, text_ends, values_bytes, granule}
use Rattle.pj_layout.specs.Granules.{HasGranule, IsGranule}
use Rattle.pj_layout.specs.Damage.{has_tag, has_rows, numbers_in, are_ends, are_values, is_granularity, damage}
use Rattle.pj_layout.specs.Damage.{never_fall, last_end}
use Rattle.pj_layout.specs.Reading.{texts_in, values_in}
use Rattle.pj_layout.proofs.KindLemmas.{numbers-of, texts-of, numbers-fit}
use Rattle.pj_layout.proofs.NumberLemmas.{numbers_in-of_spelled, length-spelled, drop-spelled}
use Rattle.pj_layout.proofs.RisingLemmas.{never_fall-tail}
use Rattle.pj_layout.proofs.EndLemmas.{ends_from, text_ends-is, length-text_ends, ends_from-fit}
use Rattle.pj_layout.proofs.EndLemmas.{never_fall-ends_from, last_end-ends_from}
use Rattle.pj_layout.proofs.CutLemmas.{texts_in-ends_from}
use Rattle.pj_layout.proofs.ReadingLemmas.{is_granule}

-- where the ends and the texts stand in the bytes of texts
record TextsStand (vs : List Value) : Type 0 where
  ends : numbers_in (length vs) (values_bytes kinds.Text vs) ≡ ends_from 0 (map text_of vs)
  texts : drop (8 * length vs) (values_bytes kinds.Text vs) ≡ joined (map text_of vs)
  long : 8 * length vs ≤ length (values_bytes kinds.Text vs)

texts_stand : (vs : List Value) → length (joined (map text_of vs)) < 18446744073709551616 → TextsStand vs
texts_stand vs l =
    let ts = map text_of vs in
    let ends = text_ends ts in
    let bytes = values_bytes kinds.Text vs in
    let count : length ends ≡ length vs = length-text_ends ts ∙ length-map vs text_of in
    let fit =
    subst (AllByRecursion (λ n. n < 18446744073709551616)) (sym (text_ends-is ts))
    (ends_from-fit 0 ts (omega (arith, l))) in
    record {
      ends = ap (λ n. numbers_in n bytes) (sym count) ∙ numbers_in-of_spelled ends (joined ts) fit ∙ text_ends-is ts;
      texts = ap (λ n. drop (8 * n) bytes) (sym count) ∙ drop-spelled ends (joined ts);
      long = omega (arith, length-append (flat_map number_bytes ends) (joined ts), length-spelled ends, count);
    }

-- the values are those that stand in their bytes
values_in-values_bytes : (kind : Kind) (vs : List Value) → AllByRecursion (IsOfKind kind) vs
    → length (joined (map text_of vs)) < 18446744073709551616
    → values_in kind (length vs) (values_bytes kind vs) ≡ record { kind = kind; values = vs }
values_in-values_bytes kinds.Num vs a l =
    let ns = map number_of vs in
    let spelled = flat_map number_bytes ns in
    ap column_of_numbers
    ((λ i. numbers_in (sym (length-map vs number_of) i) (sym (append-nil spelled) i))
    ∙ numbers_in-of_spelled ns [] (numbers-fit vs a))
    ∙ ap (λ us. record { kind = kinds.Num; values = us }) (numbers-of vs a)
values_in-values_bytes kinds.Text vs a l =
    let stand = texts_stand vs l in
    ap column_of_texts
    ((λ i. texts_in 0 (stand.ends i) (stand.texts i)) ∙ texts_in-ends_from 0 (map text_of vs))
    ∙ ap (λ us. record { kind = kinds.Text; values = us }) (texts-of vs a)

-- and no test of values refuses these bytes
are_values-values_bytes : (kind : Kind) (vs : List Value)
    → length (joined (map text_of vs)) < 18446744073709551616
    → are_values kind (length vs) (values_bytes kind vs) ≡ true
are_values-values_bytes kinds.Num vs l =
    eq-eqb (length (flat_map number_bytes (map number_of vs))) (8 * length vs)
    (omega (arith, length-spelled (map number_of vs), length-map vs number_of))
are_values-values_bytes kinds.Text vs l =
    let ts = map text_of vs in
    let ends = ends_from 0 ts in
    let bytes = values_bytes kinds.Text vs in
    let stand = texts_stand vs l in
    and_from (nat_le (8 * length vs) (length bytes))
    (are_ends (numbers_in (length vs) bytes) (length (drop (8 * length vs) bytes)))
    (le-leb (8 * length vs) (length bytes) stand.long)
    ((λ i. are_ends (stand.ends i) (length (stand.texts i)))
    ∙ and_from (never_fall ends) (last_end 0 ends == length (joined ts))
    (never_fall-tail 0 ends (never_fall-ends_from 0 ts))
    (eq-eqb (last_end 0 ends) (length (joined ts)) (omega (arith, last_end-ends_from 0 ts))))

-- ---- damage

-- the offset by the tests of the tag, of the number of rows, and of the values
abbrev offset : Bool → Bool → Bool → Option ℕ
offset t r v = if not t then Some 0 else (if not r then Some 1 else (if not v then Some 5 else None))

offset-none : (t r v : Bool) → offset t r v ≡ None → (t ≡ true) × (r ≡ true) × (v ≡ true)
offset-none true true true h = (refl, refl, refl)
offset-none true true false h = absurd (cc)
offset-none true false v h = absurd (cc)
offset-none false r v h = absurd (cc)

-- a granule is damaged nowhere
undamaged : (column : KindedValues) → HasGranule column
    → damage column.kind (length column.values) (granule column) ≡ None
undamaged column h =
    let n = length column.values in
    let bytes = values_bytes column.kind column.values in
    let tag : has_tag column.kind (granule column) ≡ true = eq-eqb (tag_of column.kind) (tag_of column.kind) refl in
    let told : has_rows n (granule column) ≡ true =
    and_from (nat_le 5 (length (granule column))) (number_in_bytes (bytes_low_first 0 4 n) == n)
    (le-leb 5 (length (granule column)) (omega arith))
    (eq-eqb (number_in_bytes (bytes_low_first 0 4 n)) n
    (number_in_bytes-bytes_low_first 4 n (omega (arith, h.few)))) in
    let some : is_granularity n ≡ true =
    and_from (nat_le 1 n) (nat_le n 65536) (le-leb 1 n h.some) (le-leb n 65536 h.few) in
    let whole : (is_granularity n && are_values column.kind n bytes) ≡ true =
    and_from (is_granularity n) (are_values column.kind n bytes) some
    (are_values-values_bytes column.kind column.values h.short) in
    λ i. offset (tag i) (told i) (whole i)

pub damage-exact : (kind : Kind) (rows : ℕ) (bytes : List ℕ) → AreBytes bytes
    → (damage kind rows bytes ≡ None) ↔ IsGranule kind rows bytes
damage-exact kind rows bytes a = (
  (λ h.
      let tests = offset-none (has_tag kind bytes) (has_rows rows bytes)
      (is_granularity rows && are_values kind rows (drop 5 bytes)) h in
      let values = and_parts (is_granularity rows) (are_values kind rows (drop 5 bytes)) tests.2 in
      (values_in kind rows (drop 5 bytes), is_granule kind rows bytes a tests.0 tests.1 values.0 values.1)),
  (λ g.
      let is = g.1 in
      sym (λ i. damage (is.kind_is i) (is.rows_are i) (is.bytes_are i)) ∙ undamaged g.0 is.has_granule),
)

-- ---- one granule, one column

tag_of-equal : (j k : Kind) → tag_of j ≡ tag_of k → j ≡ k
tag_of-equal kinds.Num kinds.Num e = refl
tag_of-equal kinds.Num kinds.Text e = absurd (omega arith)
tag_of-equal kinds.Text kinds.Num e = absurd (omega arith)
tag_of-equal kinds.Text kinds.Text e = refl

pub granule-tells : (a b : KindedValues) → HasGranule a → HasGranule b → granule a ≡ granule b → a ≡ b
granule-tells a b h k e =
    let m = length a.values in
    let n = length b.values in
    let kind : a.kind ≡ b.kind =
    tag_of-equal a.kind b.kind (ap (λ (bs : List ℕ). get_or bs 0 0) e) in
    let rows : m ≡ n =
    sym (number_in_bytes-bytes_low_first 4 m (omega (arith, h.few)))
    ∙ ap (λ (bs : List ℕ). number_in_bytes (take 4 (drop 1 bs))) e
    ∙ number_in_bytes-bytes_low_first 4 n (omega (arith, k.few)) in
    let bytes : values_bytes a.kind a.values ≡ values_bytes b.kind b.values = ap (drop 5) e in
    sym (values_in-values_bytes a.kind a.values h.of_kind h.short)
    ∙ (λ i. values_in (kind i) (rows i) (bytes i))
    ∙ values_in-values_bytes b.kind b.values k.of_kind k.short
