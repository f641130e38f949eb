-- What the functions below the public call say of one column. No public contract cites this file.
use Rattle.std.specs.Prelude.{◌≡◌, ℕ, ◌+◌, ◌*◌, ◌<◌, ◌≤◌, Option, length, slice_range}
use Rattle.std.specs.List.{AllByRecursion}
use Rattle.pj_io.specs.Faults.{Rose}
use Rattle.pj_value.specs.Columns.{KindedValues}
use Rattle.pj_layout.specs.declared.blob.Mark.{Mark}
use Rattle.pj_port.specs.Reads.{ReadBytes}
use Rattle.pj_index.specs.declared.keys.Span.{Span}
use Rattle.pj_part.specs.declared.part.ColumnFile.{ColumnFile}
use Rattle.pj_read.specs.Causes.{GaveDamage}

-- what stands for a mark where there is none
abbrev pub no_mark : Mark
no_mark = record { at = 0; size = 0; rows = 0 }

-- the values of a column from one granule to before another
abbrev pub part_in_span : ℕ → ℕ → ℕ → KindedValues → KindedValues
part_in_span granularity from to column =
    record column { values = slice_range column.values (from * granularity) (to * granularity) }

-- a column with at least so many granules, which lie in its blob
pub record IsReadable {B : Type 0} (size : B → ℕ) (to : ℕ) (file : ColumnFile B) : Type 0 where
  pub within : AllByRecursion (λ m. m.at + m.size ≤ size file.blob) file.marks
  pub many : to ≤ length file.marks

-- the reads rose, and the last one gave a damaged granule of the span in this column
pub record GaveDamageOf {B : Type 0} (file : ColumnFile B) (index : ℕ) (span : Span) (column granule at : ℕ)
    (before now : ℕ) (last : Option ReadBytes) : Type 0 where
  pub rose : Rose before now
  pub column_is : column ≡ index
  pub from : span.from ≤ granule
  pub to : granule < span.to
  pub gave : GaveDamage file granule at last
