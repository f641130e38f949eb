-- Sorted rows as they are written, whether blobs tell their bytes or not. No public contract cites this file.
use Rattle.std.specs.Prelude.{◌≡◌, ℕ, Option, Some, List, [], length, map, IfSome}
use Rattle.std.specs.List.{AllByRecursion, AllZip}
use Rattle.pj_value.specs.Columns.{KindedValues}
use Rattle.pj_value.specs.Rows.{KindedRows}
use Rattle.pj_value.specs.Order.{key_of}
use Rattle.pj_layout.specs.Blobs.{chunks, blob, marks}
use Rattle.pj_layout.specs.Granules.{HasGranule}
use Rattle.pj_part.specs.declared.part.ColumnFile.{ColumnFile}
use Rattle.pj_part.specs.declared.part.Sorted.{Sorted}
use Rattle.pj_part.specs.declared.draft.MaskChange.TheVariants as masks
use Rattle.pj_part.specs.declared.draft.PartDraft.{PartDraft}
use Rattle.pj_part.specs.Formed.{kinds_at}
use Rattle.pj_part.specs.Agreement.{columns_of, index_of}

module _ {B : Type 0} (told : B → Option (List ℕ)) (size : B → ℕ) where
  -- the granules of a column in one blob, whose bytes may be told, and their marks
  pub record IsWrittenColumn (granularity : ℕ) (file : ColumnFile B) (column : KindedValues) : Type 0 where
    pub kind : file.kind ≡ column.kind
    pub size_is : size file.blob ≡ length (blob (chunks granularity column))
    pub bytes : IfSome (told file.blob) (λ bytes. bytes ≡ blob (chunks granularity column))
    pub whole : AllByRecursion HasGranule (chunks granularity column)
    pub marks_are : file.marks ≡ marks (chunks granularity column)

  -- some columns, a blob each
  abbrev pub AreWrittenColumns : ℕ → List (ColumnFile B) → List KindedValues → Type 0
  AreWrittenColumns granularity files columns = AllZip (IsWrittenColumn granularity) files columns

  -- rows, column by column, with an index of their keys
  pub record IsWritten (granularity : ℕ) (key : List ℕ) (rows : KindedRows) (sorted : Sorted B) : Type 0 where
    pub len : sorted.rows ≡ length rows.rows
    pub columns : AreWrittenColumns granularity sorted.columns (columns_of rows)
    pub index : sorted.index ≡ index_of granularity (kinds_at rows.kinds key) (map (key_of key) rows.rows)

module _ {B : Type 0} where
  -- a draft over no source that has this base and nothing else
  abbrev pub fresh_draft : Sorted B → PartDraft B
  fresh_draft base = record { base = Some base; mask = masks.Same; kept = []; built = [] }
