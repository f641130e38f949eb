-- When the blobs of a part hold what its record says (docs/MODEL.md, "Parts").
use Rattle.std.specs.Prelude.{◌≡◌, ℕ, ◌-◌, ◌*◌, Option, Some, None, List, [], ◌∷◌, ◌++◌, length, map, IsTrue, IsFalse, IsSome}
use Rattle.std.specs.Prelude.{Any, if◌then◌else◌, slice_index_or}
use Rattle.std.specs.List.{AllByRecursion, AllZip, range_with_len}
use Rattle.pj_value.specs.declared.value.Kind.{Kind}
use Rattle.pj_value.specs.declared.value.Kind.TheVariants as kinds
use Rattle.pj_value.specs.declared.value.Value.{Value}
use Rattle.pj_value.specs.declared.value.Value.TheVariants as values
use Rattle.pj_value.specs.Columns.{KindedValues}
use Rattle.pj_value.specs.Rows.{KindedRows, column_of}
use Rattle.pj_value.specs.Order.{key_of, IsSortedBy}
use Rattle.pj_expr.specs.declared.table.Table.{Table}
use Rattle.pj_expr.specs.Tables.{kinds_of}
use Rattle.pj_layout.specs.Granules.{HasGranule}
use Rattle.pj_layout.specs.Blobs.{chunks, blob, marks}
use Rattle.pj_index.specs.declared.keys.KeyMarks.{KeyMarks}
use Rattle.pj_part.specs.declared.part.ColumnFile.{ColumnFile}
use Rattle.pj_part.specs.declared.part.Sorted.{Sorted}
use Rattle.pj_part.specs.declared.part.Part.{Part}
use Rattle.pj_part.specs.declared.draft.PartDraft.{PartDraft}
use Rattle.pj_expr.specs.Parts.{PartRow, PartRecord}
use Rattle.pj_part.specs.Laid.{Laid, laid_of, alone, mask_after, laid_over}
use Rattle.pj_part.specs.Formed.{granule_count, kinds_at, IsFormedLaid}

-- the bit of a row: 1 where it is living, and 0 where it is masked
abbrev pub bit_of : PartRow → Value
bit_of r = values.Num (if r.living then 1 else 0)

-- a row with its bit behind it, so that sorting rows sorts their bits with them
abbrev pub with_bit : PartRow → List Value
with_bit r = r.row ++ bit_of r ∷ []

-- the columns of rows
abbrev pub columns_of : KindedRows → List KindedValues
columns_of rows = map (column_of rows) (range_with_len 0 (length rows.kinds))

-- the index of rows with these keys, which are of these kinds: the first key of each granule, and the last key
abbrev pub index_of : ℕ → List Kind → List (List Value) → KeyMarks
index_of granularity key keys = record {
  firsts = record {
    kinds = key;
    rows = map (λ at. slice_index_or keys (at * granularity) []) (range_with_len 0 (granule_count granularity (length keys)));
  };
  last = slice_index_or keys (length keys - 1) [];
}

module _ {B : Type 0} (told : B → Option (List ℕ)) where
  -- the blob has the granules of these values, which tell them, and the marks tell where each stands
  pub record HoldsColumn (granularity : ℕ) (file : ColumnFile B) (column : KindedValues) : Type 0 where
    pub kind : file.kind ≡ column.kind
    pub bytes : told file.blob ≡ Some (blob (chunks granularity column))
    pub whole : AllByRecursion HasGranule (chunks granularity column)
    pub marks_are : file.marks ≡ marks (chunks granularity column)

  -- these rows, column by column, with an index of their keys
  pub record HoldsRows (granularity : ℕ) (key : List ℕ) (sorted : Sorted B) (rows : KindedRows) : Type 0 where
    pub len : sorted.rows ≡ length rows.rows
    pub columns : AllZip (HoldsColumn granularity) sorted.columns (columns_of rows)
    pub index : sorted.index ≡ index_of granularity (kinds_at rows.kinds key) (map (key_of key) rows.rows)

  -- there is a mask exactly where a row is masked, and it has the bit of each row
  abbrev pub HoldsMask : ℕ → Option (Sorted B) → List PartRow → Type 0
  HoldsMask granularity None rows = AllByRecursion (λ r. IsTrue r.living) rows
  HoldsMask granularity (Some mask) rows =
      Any (λ r. IsFalse r.living) rows
      × HoldsRows granularity [] mask (record { kinds = kinds.Num ∷ []; rows = map (λ r. bit_of r ∷ []) rows })

  -- base and mask hold the rows of a record, in the order of the table's key
  pub record HoldsBase (table : Table) (laid : Laid B) (base : List PartRow) : Type 0 where
    pub rows : List PartRow
    pub sorted : IsSortedBy table.key (map with_bit base) (map with_bit rows)
    pub held : HoldsRows table.granularity table.key laid.base
        (record { kinds = kinds_of table; rows = map (λ r. r.row) rows })
    pub mask : HoldsMask table.granularity laid.mask rows

module _ {B : Type 0} (told : B → Option (List ℕ)) (size : B → ℕ) where
  -- base, mask and copies are formed for a table, and hold a record where blobs are told. A table has no
  -- projections yet, so no copy is current
  pub record AgreesLaid (table : Table) (laid : Laid B) (r : PartRecord) : Type 0 where
    pub formed : IsFormedLaid size table laid
    pub base : ((any : B) → IsSome (told any)) → HoldsBase told table laid r.base

  -- a part of a table agrees with its record
  pub record Agrees (table : Table) (part : Part B) (r : PartRecord) : Type 0 where
    pub number : part.number ≡ r.number
    pub min : part.min ≡ r.min
    pub max : part.max ≡ r.max
    pub level : part.level ≡ r.level
    pub field : part.field ≡ r.field
    pub laid : AgreesLaid table (laid_of part) r

  -- a draft over no source, as of an INSERT, has all of its own and no mask, with copies of the record's projections
  -- alone, and agrees with the record that its part is to have, but for the numbers: it gets these where it becomes
  -- live
  pub record AgreesFresh (table : Table) (draft : PartDraft B) (r : PartRecord) : Type 0 where
    pub own : Sorted B
    pub base : draft.base ≡ Some own
    pub unmasked : mask_after draft.mask None ≡ None
    pub kept : draft.kept ≡ []
    pub copies : map (λ side. side.id) draft.built ≡ r.ids
    pub laid : AgreesLaid table (laid_over (alone own) draft) r
