-- How sorted rows lie in blobs, whether the blobs tell their bytes or not (docs/MODEL.md, "Parts").
use Rattle.std.specs.Prelude.{◌≡◌, ◌≢◌, ℕ, ◌+◌, ◌-◌, ◌*◌, ◌/◌, ◌%◌, ◌<◌, ◌≤◌, min, false, List, [], ◌∷◌, length, map}
use Rattle.std.specs.Prelude.{IfSome, slice_index_or, AllPairs}
use Rattle.std.specs.List.{AllByRecursion, range_with_len}
use Rattle.std.specs.Ordering.{is_gt}
use Rattle.pj_value.specs.declared.value.Kind.{Kind}
use Rattle.pj_value.specs.declared.value.Kind.TheVariants as kinds
use Rattle.pj_value.specs.Values.{kind_of}
use Rattle.pj_value.specs.Rows.{HaveKinds}
use Rattle.pj_value.specs.Order.{row_cmp}
use Rattle.pj_expr.specs.declared.table.Table.{Table}
use Rattle.pj_expr.specs.Tables.{kinds_of}
use Rattle.pj_layout.specs.declared.blob.Mark.{Mark}
use Rattle.pj_index.specs.declared.keys.KeyMarks.{KeyMarks}
use Rattle.pj_part.specs.declared.part.ColumnFile.{ColumnFile}
use Rattle.pj_part.specs.declared.part.Sorted.{Sorted}
use Rattle.pj_part.specs.declared.part.Part.{Part}
use Rattle.pj_part.specs.declared.draft.NewSide.{NewSide}
use Rattle.pj_part.specs.Laid.{Laid, laid_of}

-- how many granules rows have
abbrev pub granule_count : ℕ → ℕ → ℕ
granule_count granularity rows = rows / granularity + min 1 (rows % granularity)

-- how many rows each granule has: as many as the granularity says, and the last one the rest
abbrev pub granule_rows : ℕ → ℕ → List ℕ
granule_rows granularity rows =
    map (λ at. min granularity (rows - at * granularity)) (range_with_len 0 (granule_count granularity rows))

-- marks that stand side by side, from here to the end
abbrev pub AreSideBySide : ℕ → ℕ → List Mark → Type 0
AreSideBySide here end [] = here ≡ end
AreSideBySide here end (m ∷ ms) = (m.at ≡ here) × AreSideBySide (here + m.size) end ms

-- the kinds of the columns at these indexes
abbrev pub kinds_at : List Kind → List ℕ → List Kind
kinds_at all columns = map (λ at. slice_index_or all at kinds.Num) columns

-- the kinds of a table's key
abbrev pub key_kinds : Table → List Kind
key_kinds table = kinds_at (kinds_of table) table.key

-- keys that never fall, of these kinds: one for each granule, and the last one where there is a row
pub record IsFormedIndex (key : List Kind) (granularity rows : ℕ) (index : KeyMarks) : Type 0 where
  pub kinds : index.firsts.kinds ≡ key
  pub shape : HaveKinds key index.firsts.rows
  pub granules : length index.firsts.rows ≡ granule_count granularity rows
  pub last : 0 < rows → map kind_of index.last ≡ key
  pub rising : (i j : ℕ) → i ≤ j → j < length index.firsts.rows
      → is_gt (row_cmp (slice_index_or index.firsts.rows i []) (slice_index_or index.firsts.rows j [])) ≡ false
  pub closed : (i : ℕ) → i < length index.firsts.rows
      → is_gt (row_cmp (slice_index_or index.firsts.rows i []) index.last) ≡ false

module _ {B : Type 0} (size : B → ℕ) where
  -- a blob whose marks stand side by side over all of it, and tell the granules of so many rows
  pub record IsFormedColumn (granularity rows : ℕ) (file : ColumnFile B) : Type 0 where
    pub marks : AreSideBySide 0 (size file.blob) file.marks
    pub granules : map (λ m. m.rows) file.marks ≡ granule_rows granularity rows

  -- rows with columns of these kinds and a key of those
  pub record IsFormedSorted (columns key : List Kind) (granularity : ℕ) (sorted : Sorted B) : Type 0 where
    pub kinds : map (λ file. file.kind) sorted.columns ≡ columns
    pub files : AllByRecursion (IsFormedColumn granularity sorted.rows) sorted.columns
    pub index : IsFormedIndex key granularity sorted.rows sorted.index

  -- a mask: a column of numbers without a key, one for each row of the base
  pub record IsFormedMask (granularity rows : ℕ) (mask : Sorted B) : Type 0 where
    pub sorted : IsFormedSorted (kinds.Num ∷ []) [] granularity mask
    pub rows_are : mask.rows ≡ rows
    pub last : mask.index.last ≡ []

  -- a copy has some columns and some key; those of a current one are its projection's
  pub record IsFormedSide (granularity : ℕ) (side : NewSide B) : Type 0 where
    pub columns : List Kind
    pub key : List Kind
    pub sorted : IsFormedSorted columns key granularity side.sorted

  -- a base of the table's columns and key, a mask that fits it, and copies of different projections
  pub record IsFormedLaid (table : Table) (laid : Laid B) : Type 0 where
    pub base : IsFormedSorted (kinds_of table) (key_kinds table) table.granularity laid.base
    pub mask : IfSome laid.mask (IsFormedMask table.granularity laid.base.rows)
    pub sides : AllByRecursion (IsFormedSide table.granularity) laid.sides
    pub apart : AllPairs (λ a b. a.id ≢ b.id) laid.sides

  -- a part is formed for its table
  abbrev pub IsFormed : Table → Part B → Type 0
  IsFormed table part = IsFormedLaid table (laid_of part)
