-- Why a read of a part ends as it does, by the counts of the port and by what it gave last.
use Rattle.std.specs.Prelude.{◌≡◌, ℕ, ◌<◌, ◌≤◌, Option, Some, List, length, Result, OnOk, IsErrOf}
use Rattle.std.specs.List.{Contains, slice_get}
use Rattle.pj_io.specs.Faults.{Rose}
use Rattle.pj_layout.specs.declared.blob.Mark.{Mark}
use Rattle.pj_layout.specs.Damage.{damage}
use Rattle.pj_port.specs.Counts.{risen, RoseAtMost}
use Rattle.pj_port.specs.Reads.{ReadBytes}
use Rattle.pj_index.specs.declared.keys.Span.{Span}
use Rattle.pj_part.specs.declared.part.ColumnFile.{ColumnFile}
use Rattle.pj_read.specs.declared.fault.ReadPartFault.{ReadPartFault}
use Rattle.pj_read.specs.declared.fault.ReadPartFault.TheVariants as faults

module _ {T : Type 0} where
  -- the port's faults never fall, they rose where StoreFault is answered, and else they stay
  pub record HasPortCause (before now : ℕ) (result : Result T ReadPartFault) : Type 0 where
    pub later : before ≤ now
    pub failed : IsErrOf result faults.StoreFault → Rose before now
    pub calm : (IsErrOf result faults.StoreFault → ⊥) → now ≡ before

  -- the port made so many reads, and after a refusal at most so many
  pub record TookReads (count before now : ℕ) (result : Result T ReadPartFault) : Type 0 where
    pub exact : OnOk result (now ≡ risen before count)
    pub at_most : RoseAtMost count before now

module _ {B : Type 0} where
  -- the last read gave the bytes at a granule's mark, and they are damaged at this offset
  pub record GaveDamage (file : ColumnFile B) (granule at : ℕ) (last : Option ReadBytes) : Type 0 where
    pub mark : Mark
    pub marked : slice_get file.marks granule ≡ Some mark
    pub bytes : List ℕ
    pub given : last ≡ Some (record { at = mark.at; bytes = bytes })
    pub size : length bytes ≡ mark.size
    pub damaged : damage file.kind mark.rows bytes ≡ Some at

  -- the reads rose, and the last one gave a damaged granule of the span, in one of the columns that were asked for
  pub record GaveDamageIn (files : List (ColumnFile B)) (columns : List ℕ) (span : Span) (column granule at : ℕ)
      (before now : ℕ) (last : Option ReadBytes) : Type 0 where
    pub rose : Rose before now
    pub asked : Contains columns column
    pub file : ColumnFile B
    pub file_is : slice_get files column ≡ Some file
    pub from : span.from ≤ granule
    pub to : granule < span.to
    pub gave : GaveDamage file granule at last
