-- How a SELECT is refused whose parts could not be read. No public contract cites this file.
use Rattle.std.specs.Prelude.{◌≡◌, Some, List, slice_get}
use Rattle.pj_bind.specs.declared.types.PartName.{PartName}
use Rattle.pj_bind.specs.declared.types.SourceName.TheVariants.{Base}
use Rattle.pj_bind.specs.declared.types.Refusal.{Refusal}
use Rattle.pj_bind.specs.declared.types.Refusal.TheVariants as refusals
use Rattle.pj_part.specs.declared.part.Part.{Part}
use Rattle.pj_exec.specs.declared.fault.SelectFault.{SelectFault}
use Rattle.pj_exec.specs.declared.fault.SelectFault.TheVariants as faults

module _ {B : Type 0} where
  -- the name of a part
  abbrev pub name_of : Part B → PartName
  name_of part = record { min = part.min; max = part.max; level = part.level; field = part.field }

  -- the refusal of a SELECT over these parts, by why it has no rows
  abbrev pub IsRefusalFor : List (Part B) → SelectFault → Refusal → Type 0
  IsRefusalFor parts faults.StoreFault refusal = refusal ≡ refusals.StoreFault
  IsRefusalFor parts (faults.Damaged index column granule at) refusal =
      (part : Part B) × (slice_get parts index ≡ Some part)
      × (refusal ≡ refusals.Damaged (name_of part) Base column granule at)
  IsRefusalFor parts faults.NoMemory refusal = refusal ≡ refusals.NoMemory
