-- Which granules an index selects for a range of keys (docs/MODEL.md, "Granules and ranges").
use Rattle.std.specs.Prelude.{◌≡◌, ℕ, ◌+◌, ◌-◌, ◌<◌, ◌≤◌, Bool, false, ◌&&◌, not, List, [], length, take, filter}
use Rattle.std.specs.Prelude.{slice_index_or}
use Rattle.std.specs.List.{range_with_len}
use Rattle.std.specs.Ordering.{is_lt, is_gt}
use Rattle.pj_value.specs.declared.value.Value.{Value}
use Rattle.pj_value.specs.Order.{row_cmp}
use Rattle.pj_index.specs.declared.keys.KeyMarks.{KeyMarks}
use Rattle.pj_index.specs.declared.keys.KeyRange.{KeyRange}
use Rattle.pj_index.specs.declared.keys.Span.{Span}

-- a key, cut to the length of a bound, is above it
abbrev pub is_above : List Value → List Value → Bool
is_above high key = is_gt (row_cmp (take (length high) key) high)

-- a key, cut to the length of a bound, is below it
abbrev pub is_below : List Value → List Value → Bool
is_below low key = is_lt (row_cmp (take (length low) key) low)

-- a key is neither below the range nor above it
abbrev pub is_within : KeyRange → List Value → Bool
is_within range key = not (is_below range.low key) && not (is_above range.high key)

-- the key of the first row of a granule
abbrev pub first_of : KeyMarks → ℕ → List Value
first_of marks granule = slice_index_or marks.firsts.rows granule []

-- the key up to which a granule reaches: that of the next one's first row, and for the last granule the last key
abbrev pub end_of : KeyMarks → ℕ → List Value
end_of marks granule = slice_index_or marks.firsts.rows (granule + 1) marks.last

-- the granule doesn't begin above the range, nor end below it
abbrev pub is_selected : KeyMarks → KeyRange → ℕ → Bool
is_selected marks range granule =
    not (is_above range.high (first_of marks granule)) && not (is_below range.low (end_of marks granule))

-- the granules that an index selects for a range, in their order
abbrev pub selected : KeyMarks → KeyRange → List ℕ
selected marks range = filter (is_selected marks range) (range_with_len 0 (length marks.firsts.rows))

-- the granules of a span
abbrev pub granules_of : Span → List ℕ
granules_of span = range_with_len span.from (span.to - span.from)

-- the span of these granules, which stand side by side; it begins at 0 where there is none
pub record IsSpanOf (granules : List ℕ) (span : Span) : Type 0 where
  pub ordered : span.from ≤ span.to
  pub are : granules_of span ≡ granules
  pub empty : span.from ≡ span.to → span.from ≡ 0

-- first keys that never fall, and where there is one a last key that isn't below them
pub record NeverFalls (marks : KeyMarks) : Type 0 where
  pub rising : (i j : ℕ) → i ≤ j → j < length marks.firsts.rows
      → is_gt (row_cmp (first_of marks i) (first_of marks j)) ≡ false
  pub closed : (i : ℕ) → i < length marks.firsts.rows → is_gt (row_cmp (first_of marks i) marks.last) ≡ false
