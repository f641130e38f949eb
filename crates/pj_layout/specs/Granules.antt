-- A granule: values of a column that are written and read as one, and their bytes (docs/FORMATS.md, "Granules").
use Rattle.std.specs.Prelude.{◌≡◌, ℕ, ◌<◌, ◌≤◌, List, [], ◌∷◌, ◌++◌, flat_map, length, map, take}
use Rattle.std.specs.List.{AllByRecursion, range_with_len}
use Rattle.std.specs.Int.{bytes_low_first}
use Rattle.pj_value.specs.declared.value.Kind.{Kind}
use Rattle.pj_value.specs.declared.value.Kind.TheVariants as kinds
use Rattle.pj_value.specs.declared.value.Value.{Value}
use Rattle.pj_value.specs.declared.value.Value.TheVariants as values
use Rattle.pj_value.specs.Columns.{KindedValues}
use Rattle.pj_value.specs.Summaries.{IsOfKind, number_bytes}

-- the first byte, which tells the kind: 4E, an N, for numbers, and 54, a T, for texts
abbrev pub tag_of : Kind → ℕ
tag_of kinds.Num = 78
tag_of kinds.Text = 84

-- the number that a value is, and 0 for a text
abbrev pub number_of : Value → ℕ
number_of (values.Num n) = n
number_of (values.Text t) = 0

-- the bytes of the text that a value is, and none for a number
abbrev pub text_of : Value → List ℕ
text_of (values.Num n) = []
text_of (values.Text t) = t

-- texts one behind the other
abbrev pub joined : List (List ℕ) → List ℕ
joined texts = flat_map (λ t. t) texts

-- where each of the texts ends: the k-th where the first k are over
abbrev pub text_ends : List (List ℕ) → List ℕ
text_ends texts = map (λ k. length (joined (take k texts))) (range_with_len 1 (length texts))

-- the bytes of values of a kind: each number, or where each text ends and then the texts
abbrev pub values_bytes : Kind → List Value → List ℕ
values_bytes kinds.Num vs = flat_map number_bytes (map number_of vs)
values_bytes kinds.Text vs = flat_map number_bytes (text_ends (map text_of vs)) ++ joined (map text_of vs)

-- the bytes of a granule of these values: the tag, how many they are in four bytes, and the values
abbrev pub granule : KindedValues → List ℕ
granule column =
    tag_of column.kind ∷ (bytes_low_first 0 4 (length column.values) ++ values_bytes column.kind column.values)

-- values that have a granule: at least one and at most 65,536, of their kind, which code can hold, with fewer
-- than 2 ^ 64 bytes of texts
pub record HasGranule (column : KindedValues) : Type 0 where
  pub some : 1 ≤ length column.values
  pub few : length column.values ≤ 65536
  pub of_kind : AllByRecursion (IsOfKind column.kind) column.values
  pub short : length (joined (map text_of column.values)) < 18446744073709551616

-- bytes are the granule of these values, which are so many of a kind
pub record IsGranuleOf (kind : Kind) (rows : ℕ) (column : KindedValues) (bytes : List ℕ) : Type 0 where
  pub kind_is : column.kind ≡ kind
  pub rows_are : length column.values ≡ rows
  pub has_granule : HasGranule column
  pub bytes_are : granule column ≡ bytes

-- bytes are a granule of so many values of a kind
abbrev pub IsGranule : Kind → ℕ → List ℕ → Type 0
IsGranule kind rows bytes = (column : KindedValues) × IsGranuleOf kind rows column bytes
