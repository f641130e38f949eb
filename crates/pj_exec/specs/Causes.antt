-- Why a SELECT ends as it does, by the counts of the port and by what it gave last.
use Rattle.std.specs.Prelude.{◌≡◌, ℕ, ◌≤◌, Option, Some, List, Result, OnOk, IsErrOf}
use Rattle.std.specs.List.{slice_get}
use Rattle.pj_io.specs.Faults.{Rose}
use Rattle.pj_port.specs.Counts.{risen, RoseAtMost}
use Rattle.pj_port.specs.Reads.{ReadBytes}
use Rattle.pj_part.specs.declared.part.Part.{Part}
use Rattle.pj_read.specs.Spans.{base_of}
use Rattle.pj_read.specs.Causes.{GaveDamageIn}
use Rattle.pj_exec.specs.Scans.{all_granules}
use Rattle.pj_exec.specs.declared.fault.SelectFault.{SelectFault}
use Rattle.pj_exec.specs.declared.fault.SelectFault.TheVariants as faults

module _ {T : Type 0} where
  -- the port's faults never fall, they rose where StoreFault is answered, and else they stay
  pub record HasPortCause (before now : ℕ) (result : Result T SelectFault) : Type 0 where
    pub later : before ≤ now
    pub failed : IsErrOf result faults.StoreFault → Rose before now
    pub calm : (IsErrOf result faults.StoreFault → ⊥) → now ≡ before

  -- the port made so many reads, and after a refusal at most so many
  pub record TookReads (count before now : ℕ) (result : Result T SelectFault) : Type 0 where
    pub exact : OnOk result (now ≡ risen before count)
    pub at_most : RoseAtMost count before now

-- the part with this index is there, and the last read gave a damaged granule of its base, in one of these
-- columns
pub record GaveDamageOf {B : Type 0} (parts : List (Part B)) (columns : List ℕ) (index column granule at : ℕ)
    (before now : ℕ) (last : Option ReadBytes) : Type 0 where
  pub part : Part B
  pub part_is : slice_get parts index ≡ Some part
  pub gave : GaveDamageIn (base_of part).columns columns (all_granules part) column granule at before now last
