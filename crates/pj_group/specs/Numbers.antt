-- Which group each row is of. No public contract cites this file.
use Rattle.std.specs.Prelude.{◌≡◌, ◌==◌, ℕ, ◌-◌, ◌<◌, List, [], ◌∷◌, ◌++◌, length, map, take, slice_index_or}
use Rattle.std.specs.Prelude.{if◌then◌else◌}
use Rattle.std.specs.List.{All, range_with_len, position_or_len, IsDistinct}
use Rattle.pj_answer.specs.Answers.{Row, same_row, has_row}
use Rattle.pj_group.specs.declared.numbers.Numbers.{Numbers}
use Rattle.pj_group.specs.declared.dense.Dense.{Dense}
use Rattle.pj_group.specs.Keyed.{key_at}

-- the keys of so many rows in columns
abbrev pub keys_of_rows : List Dense → ℕ → List Row
keys_of_rows columns len = map (key_at columns) (range_with_len 0 len)

-- keys with one behind them, where it isn't there
abbrev pub with_key : List Row → Row → List Row
with_key keys key = if has_row key keys then keys else keys ++ key ∷ []

-- the numbers of the groups that rows with these keys begin
abbrev pub fresh : List Row → List Row → List ℕ
fresh old new = range_with_len (length old) (length new - length old)

-- the first of the rows that are of a group
abbrev pub opening_of : List ℕ → ℕ → ℕ
opening_of groups group = position_or_len (λ n. n == group) groups

-- these are the groups of rows with these keys: the keys that were there stay in their places, each number is
-- that of the row's key, and each new group is opened by the first of its rows
pub record AreNumbers (old rows new : List Row) (numbers : Numbers) : Type 0 where
  pub kept : take (length old) new ≡ old
  pub once : IsDistinct same_row new
  pub within : All (λ n. n < length new) numbers.groups.items
  pub keys_are : map (λ n. slice_index_or new n []) numbers.groups.items ≡ rows
  pub openings_are : numbers.openings.items ≡ map (opening_of numbers.groups.items) (fresh old new)
  pub opened : All (λ at. at < length rows) numbers.openings.items
