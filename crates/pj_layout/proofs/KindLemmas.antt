-- Values of one kind, and their granules.
use Rattle.std.proofs.Common.{◌≡◌, ℕ, ◌<◌, ◌≤◌, List, [], ◌∷◌, ◌++◌, length, map, refl, ap, arith, length-append}
use Rattle.std.specs.List.{AllByRecursion, flat_map}
use Rattle.std.specs.Int.{bytes_low_first}
use Rattle.std.proofs.lemmas.List.{length-map}
use Rattle.pj_value.specs.declared.value.Kind.{Kind}
use Rattle.pj_value.specs.declared.value.Kind.TheVariants as kinds
use Rattle.pj_value.specs.declared.value.Value.{Value}
use Rattle.pj_value.specs.declared.value.Value.TheVariants as values
use Rattle.pj_value.specs.Values.{kind_of, Fits}
use Rattle.pj_value.specs.NumberBytes.{AreBytes}
use Rattle.pj_value.specs.Columns.{column_of_numbers, column_of_texts}
use Rattle.pj_value.specs.Summaries.{IsOfKind, number_bytes}
use Rattle.pj_layout.specs.Granules.{number_of, text_of, joined, text_ends, values_bytes, granule}

-- ---- numbers and texts as values

pub number_of-numbers : (ns : List ℕ) → map number_of (map (λ n. values.Num n) ns) ≡ ns
number_of-numbers [] = refl
number_of-numbers (n ∷ ns) = ap (λ ms. n ∷ ms) (number_of-numbers ns)

pub text_of-texts : (ts : List (List ℕ)) → map text_of (map (λ t. values.Text t) ts) ≡ ts
text_of-texts [] = refl
text_of-texts (t ∷ ts) = ap (λ us. t ∷ us) (text_of-texts ts)

-- numbers have no text
pub text_of-numbers : (ns : List ℕ) → joined (map text_of (map (λ n. values.Num n) ns)) ≡ []
text_of-numbers [] = refl
text_of-numbers (n ∷ ns) = text_of-numbers ns

pub numbers-of : (vs : List Value) → AllByRecursion (IsOfKind kinds.Num) vs
    → map (λ n. values.Num n) (map number_of vs) ≡ vs
numbers-of [] a = refl
numbers-of (values.Num n ∷ vs) a = ap (λ us. values.Num n ∷ us) (numbers-of vs a.1)
numbers-of (values.Text t ∷ vs) a = absurd (cc (a.0.0))

pub texts-of : (vs : List Value) → AllByRecursion (IsOfKind kinds.Text) vs
    → map (λ t. values.Text t) (map text_of vs) ≡ vs
texts-of [] a = refl
texts-of (values.Num n ∷ vs) a = absurd (cc (a.0.0))
texts-of (values.Text t ∷ vs) a = ap (λ us. values.Text t ∷ us) (texts-of vs a.1)

pub numbers-fit : (vs : List Value) → AllByRecursion (IsOfKind kinds.Num) vs
    → AllByRecursion (λ n. n < 18446744073709551616) (map number_of vs)
numbers-fit [] a = tt
numbers-fit (values.Num n ∷ vs) a = (a.0.1, numbers-fit vs a.1)
numbers-fit (values.Text t ∷ vs) a = absurd (cc (a.0.0))

pub numbers-of_kind : (ns : List ℕ) → AllByRecursion (λ n. n < 18446744073709551616) ns
    → AllByRecursion (IsOfKind kinds.Num) (map (λ n. values.Num n) ns)
numbers-of_kind [] a = tt
numbers-of_kind (n ∷ ns) a = ((refl, a.0), numbers-of_kind ns a.1)

pub texts-of_kind : (ts : List (List ℕ)) → AllByRecursion AreBytes ts
    → AllByRecursion (IsOfKind kinds.Text) (map (λ t. values.Text t) ts)
texts-of_kind [] a = tt
texts-of_kind (t ∷ ts) a = ((refl, a.0), texts-of_kind ts a.1)

-- values of a kind that fit are of the kind
pub both-of_kind : (kind : Kind) (vs : List Value) → AllByRecursion (λ v. kind_of v ≡ kind) vs
    → AllByRecursion Fits vs → AllByRecursion (IsOfKind kind) vs
both-of_kind kind [] a b = tt
both-of_kind kind (v ∷ vs) a b = ((a.0, b.0), both-of_kind kind vs a.1 b.1)

-- the texts are no longer than the bytes of the values
pub texts-short : (kind : Kind) (vs : List Value) → AllByRecursion (IsOfKind kind) vs
    → length (joined (map text_of vs)) ≤ length (values_bytes kind vs)
texts-short kinds.Num [] a = omega arith
texts-short kinds.Num (values.Num n ∷ vs) a = omega (arith, texts-short kinds.Num vs a.1)
texts-short kinds.Num (values.Text t ∷ vs) a = absurd (cc (a.0.0))
texts-short kinds.Text vs a =
    omega (arith, length-append (flat_map number_bytes (text_ends (map text_of vs))) (joined (map text_of vs)))

-- ---- granules of one kind

-- the granule of numbers
pub granule-numbers : (ns : List ℕ)
    → granule (column_of_numbers ns) ≡ 78 ∷ (bytes_low_first 0 4 (length ns) ++ flat_map number_bytes ns)
granule-numbers ns =
    λ i. 78 ∷ (bytes_low_first 0 4 (length-map ns (λ n. values.Num n) i)
    ++ flat_map number_bytes (number_of-numbers ns i))

-- the granule of texts
pub granule-texts : (ts : List (List ℕ))
    → granule (column_of_texts ts)
    ≡ 84 ∷ (bytes_low_first 0 4 (length ts) ++ (flat_map number_bytes (text_ends ts) ++ joined ts))
granule-texts ts =
    λ i. 84 ∷ (bytes_low_first 0 4 (length-map ts (λ t. values.Text t) i)
    ++ (flat_map number_bytes (text_ends (text_of-texts ts i)) ++ joined (text_of-texts ts i)))
