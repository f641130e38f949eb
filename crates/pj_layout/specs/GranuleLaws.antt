-- Laws of granules, of damage and of marks.
use Rattle.std.specs.Prelude.{◌≡◌, ℕ, ◌+◌, ◌≤◌, ◌↔◌, None, List, flat_map, length, slice_range}
use Rattle.std.specs.List.{AllZip}
use Rattle.pj_value.specs.declared.value.Kind.{Kind}
use Rattle.pj_value.specs.NumberBytes.{AreBytes}
use Rattle.pj_value.specs.Columns.{KindedValues}
use Rattle.pj_layout.specs.declared.blob.Mark.{Mark}
use Rattle.pj_layout.specs.Granules.{granule, HasGranule, IsGranule}
use Rattle.pj_layout.specs.Blobs.{chunks, blob, marks}
use Rattle.pj_layout.specs.Damage.{damage}

-- bytes are damaged at no offset exactly where they are a granule
abbrev pub DamageIsExact : Type 0
DamageIsExact =
    (kind : Kind) (rows : ℕ) (bytes : List ℕ) → AreBytes bytes
    → (damage kind rows bytes ≡ None) ↔ IsGranule kind rows bytes

-- bytes are the granule of one column, and of no other
abbrev pub GranulesTellTheirValues : Type 0
GranulesTellTheirValues =
    (a b : KindedValues) → HasGranule a → HasGranule b → granule a ≡ granule b → a ≡ b

-- the chunks of a column have its values, in order
abbrev pub ChunksAreTheColumn : Type 0
ChunksAreTheColumn =
    (granularity : ℕ) (column : KindedValues) → 1 ≤ granularity
    → flat_map (λ c. c.values) (chunks granularity column) ≡ column.values

-- a mark tells where the granule of these values stands in a blob, and how many they are
pub record MarksGranule (bytes : List ℕ) (mark : Mark) (column : KindedValues) : Type 0 where
  pub stands : slice_range bytes mark.at (mark.at + mark.size) ≡ granule column
  pub within : mark.at + mark.size ≤ length bytes
  pub rows : mark.rows ≡ length column.values

-- each granule of a blob stands at its mark
abbrev pub GranulesStandAtTheirMarks : Type 0
GranulesStandAtTheirMarks =
    (columns : List KindedValues) → AllZip (MarksGranule (blob columns)) (marks columns) columns
