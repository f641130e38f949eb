-- Laws of the granules that an index selects.
use Rattle.std.specs.Prelude.{◌≡◌, ℕ, true, false, List}
use Rattle.std.specs.Ordering.{is_gt}
use Rattle.pj_value.specs.declared.value.Value.{Value}
use Rattle.pj_value.specs.Order.{row_cmp}
use Rattle.pj_index.specs.declared.keys.KeyMarks.{KeyMarks}
use Rattle.pj_index.specs.declared.keys.KeyRange.{KeyRange}
use Rattle.pj_index.specs.Selection.{is_within, first_of, end_of, is_selected}

-- a granule is selected where a key of it is in the range: it isn't below the granule's first key, nor above the
-- key up to which the granule reaches
abbrev pub NoKeyIsLeftOut : Type 0
NoKeyIsLeftOut =
    (marks : KeyMarks) (range : KeyRange) (granule : ℕ) (key : List Value)
    → is_gt (row_cmp (first_of marks granule) key) ≡ false
    → is_gt (row_cmp key (end_of marks granule)) ≡ false
    → is_within range key ≡ true
    → is_selected marks range granule ≡ true
