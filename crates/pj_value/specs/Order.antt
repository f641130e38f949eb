-- The order of values and of rows, and what it is to sort rows (docs/MODEL.md, "Values").
use Rattle.std.specs.Prelude.{◌≡◌, ℕ, ◌<◌, ◌≤◌, false, List, length, map, slice_index, slice_index_or, []}
use Rattle.std.specs.List.{range_with_len}
use Rattle.std.specs.List.Sorted.{IsPermutation}
use Rattle.std.specs.Ordering.{is_gt, nat_cmp}
use Rattle.std.specs.Cmp.Lexicographic.{slice_cmp}
use Rattle.std.specs.declared.cmp.Ordering.{Ordering}
use Rattle.std.specs.declared.cmp.Ordering.TheVariants.{Less, Equal, Greater}
use Rattle.pj_value.specs.declared.value.Value.{Value}
use Rattle.pj_value.specs.declared.value.Value.TheVariants as values
use Rattle.pj_value.specs.Rows.{value_in, rows_at}

-- numbers by size, texts by their bytes with a proper prefix first, and a number before a text
abbrev pub value_cmp : Value → Value → Ordering
value_cmp (values.Num m) (values.Num n) = nat_cmp m n
value_cmp (values.Num m) (values.Text t) = Less
value_cmp (values.Text s) (values.Num n) = Greater
value_cmp (values.Text s) (values.Text t) = slice_cmp nat_cmp s t

-- lists of values, as rows are: the first item that differs decides, and a proper prefix is first
abbrev pub row_cmp : List Value → List Value → Ordering
row_cmp a b = slice_cmp value_cmp a b

-- the values of a row in these columns, in this order
abbrev pub key_of : List ℕ → List Value → List Value
key_of keys row = map (λ key. value_in row key) keys

-- rows by their values in these columns: the first column that differs decides
abbrev pub key_cmp : List ℕ → List Value → List Value → Ordering
key_cmp keys a b = row_cmp (key_of keys a) (key_of keys b)

-- the same rows in the order of these columns, and rows that are equal in them in the order that they had
pub record IsSortedBy (keys : List ℕ) (rows out : List (List Value)) : Type 0 where
  -- where each row of `out` stands in `rows`
  pub indexes : List ℕ
  pub each_once : IsPermutation (range_with_len 0 (length rows)) indexes
  pub rows_are : out ≡ rows_at rows indexes
  pub rising : (i j : ℕ) → i ≤ j → j < length out
      → is_gt (key_cmp keys (slice_index_or out i []) (slice_index_or out j [])) ≡ false
  pub stable : (i j : ℕ) → i ≤ j → j < length out
      → key_cmp keys (slice_index_or out i []) (slice_index_or out j []) ≡ Equal
      → slice_index indexes i ≤ slice_index indexes j
