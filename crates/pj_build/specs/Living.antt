-- Drafts of rows that are all living, as those of an INSERT are (docs/MODEL.md, "Parts").
use Rattle.std.specs.Prelude.{◌≡◌, ℕ, Option, List, [], map, true}
use Rattle.pj_value.specs.declared.value.Value.{Value}
use Rattle.pj_expr.specs.declared.table.Table.{Table}
use Rattle.pj_expr.specs.Parts.{PartRow, PartRecord}
use Rattle.pj_part.specs.declared.draft.PartDraft.{PartDraft}
use Rattle.pj_part.specs.Agreement.{AgreesFresh}

-- a row that isn't masked
abbrev pub living_row : List Value → PartRow
living_row row = record { row = row; living = true }

module _ {B : Type 0} (told : B → Option (List ℕ)) (size : B → ℕ) where
  -- a draft agrees with each record that has these rows, in this order, all of them living, and no copy
  abbrev pub AgreesLiving : Table → List (List Value) → PartDraft B → Type 0
  AgreesLiving table rows draft =
      (r : PartRecord) → r.base ≡ map living_row rows → r.ids ≡ [] → AgreesFresh told size table draft r
