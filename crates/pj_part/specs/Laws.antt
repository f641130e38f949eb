-- Laws of how sorted rows lie in blobs.
use Rattle.std.specs.Prelude.{◌≡◌, ℕ, ◌+◌, ◌≤◌, ◌<◌, false, List, [], length, map, slice_index_or, sum}
use Rattle.std.specs.List.{AllByRecursion}
use Rattle.std.specs.Ordering.{is_gt}
use Rattle.pj_value.specs.declared.value.Kind.{Kind}
use Rattle.pj_value.specs.declared.value.Value.{Value}
use Rattle.pj_value.specs.Columns.{KindedValues}
use Rattle.pj_value.specs.Rows.{HaveKinds}
use Rattle.pj_value.specs.Order.{row_cmp}
use Rattle.pj_layout.specs.Blobs.{chunks, blob, marks}
use Rattle.pj_part.specs.declared.part.ColumnFile.{ColumnFile}
use Rattle.pj_part.specs.Formed.{IsFormedColumn, IsFormedIndex}
use Rattle.pj_part.specs.Agreement.{index_of}

-- what is written of a column is formed: its marks, and a blob of so many bytes
abbrev pub WrittenColumnsAreFormed : {B : Type 0} → (B → ℕ) → Type 0
WrittenColumnsAreFormed {B} size =
    (granularity : ℕ) (file : ColumnFile B) (column : KindedValues) → 1 ≤ granularity
    → file.marks ≡ marks (chunks granularity column)
    → size file.blob ≡ length (blob (chunks granularity column))
    → IsFormedColumn size granularity (length column.values) file

-- keys that never fall
abbrev pub NeverFall : List (List Value) → Type 0
NeverFall keys = (i j : ℕ) → i ≤ j → j < length keys
    → is_gt (row_cmp (slice_index_or keys i []) (slice_index_or keys j [])) ≡ false

-- the index of keys that never fall is formed
abbrev pub IndexesOfKeysAreFormed : Type 0
IndexesOfKeysAreFormed =
    (granularity : ℕ) (key : List Kind) (keys : List (List Value)) → 1 ≤ granularity
    → HaveKinds key keys → NeverFall keys
    → IsFormedIndex key granularity (length keys) (index_of granularity key keys)

-- the granules of a formed column lie in its blob, so that a port can read them
abbrev pub GranulesLieInTheirBlobs : {B : Type 0} → (B → ℕ) → Type 0
GranulesLieInTheirBlobs {B} size =
    (granularity rows : ℕ) (file : ColumnFile B) → IsFormedColumn size granularity rows file
    → AllByRecursion (λ m. m.at + m.size ≤ size file.blob) file.marks

-- and have all its rows
abbrev pub GranulesHaveTheRows : {B : Type 0} → (B → ℕ) → Type 0
GranulesHaveTheRows {B} size =
    (granularity rows : ℕ) (file : ColumnFile B) → 1 ≤ granularity → IsFormedColumn size granularity rows file
    → sum (map (λ m. m.rows) file.marks) ≡ rows
