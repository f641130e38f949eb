-- The part that an INSERT makes of its draft agrees with the record that its entry makes.
use Rattle.std.proofs.Common.{◌≡◌, ℕ, List, [], map, Option, None, refl, sym, ap, subst, arith}
use Rattle.std.specs.Prelude.{unwrap_or, option_map, filter_map}
use Rattle.pj_value.specs.declared.value.Value.{Value}
use Rattle.pj_expr.specs.declared.table.Table.{Table}
use Rattle.pj_expr.specs.Parts.{PartRecord}
use Rattle.pj_journal.specs.Parts.{inserted}
use Rattle.pj_part.specs.declared.part.Sorted.{Sorted}
use Rattle.pj_part.specs.declared.part.Part.{Part}
use Rattle.pj_part.specs.declared.draft.PartDraft.{PartDraft}
use Rattle.pj_part.specs.Laid.{Laid, laid_of, laid_over, alone, copy_of, piece_in}
use Rattle.pj_part.specs.Agreement.{HoldsRows, HoldsMask, AgreesLaid, AgreesFresh}
use Rattle.pj_part.specs.Formed.{IsFormedSorted, key_kinds}
use Rattle.pj_expr.specs.Tables.{kinds_of}
use Rattle.pj_build.specs.Living.{AgreesLiving}
use Rattle.pj_server.specs.Store.{IsInserted}
use Rattle.pj_server.specs.State.{PartStands}

module _ {B : Type 0} (told : B → Option (List ℕ)) (size : B → ℕ) where
  -- a base without mask and copies agrees where one does that has these as well
  agrees_alone : (table : Table) (laid : Laid B) (base : Sorted B) (r : PartRecord) → laid.base ≡ base
      → laid.mask ≡ None → AgreesLaid told size table laid r → AgreesLaid told size table (alone base) r
  agrees_alone table laid base r same unmasked h = record {
    formed = record {
      base = subst (IsFormedSorted size (kinds_of table) (key_kinds table) table.granularity) same h.formed.base;
      mask = tt;
      sides = tt;
      apart = λ i j d lt there. absurd (omega arith);
    };
    base = λ all. let held = h.base all in record {
      rows = held.rows;
      sorted = held.sorted;
      held = subst
          (λ b. HoldsRows told table.granularity table.key b
          (record { kinds = kinds_of table; rows = map (λ row. row.row) held.rows })) same held.held;
      mask = subst (λ m. HoldsMask told table.granularity m held.rows) unmasked held.mask;
    };
  }

  -- a part that an INSERT made is its base
  laid_alone : (draft : PartDraft B) (part : Part B) (number block : ℕ) → IsInserted draft number block part
      → alone (laid_of part).base ≡ laid_of part
  laid_alone draft part number block is =
      let mask : None ≡ (laid_of part).mask =
      ap (λ m. option_map (λ shared. (piece_in shared).sorted) m) (sym is.unmasked) in
      let sides : [] ≡ (laid_of part).sides =
      ap (λ xs. filter_map (λ side. copy_of (piece_in side).id (piece_in side).sorted) xs) (sym is.copies) in
      λ i. record { base = (laid_of part).base; mask = mask i; sides = sides i }

  pub part_stands : (table : Table) (draft : PartDraft B) (part : Part B) (number block : ℕ)
      (rows : List (List Value))
      → AgreesLiving told size table rows draft → IsInserted draft number block part
      → PartStands told size table part (inserted number block rows)
  part_stands table draft part number block rows living is =
      let r = inserted number block rows in
      let fresh : AgreesFresh told size table draft r = living r refl refl in
      let base : (laid_over (alone fresh.own) draft).base ≡ (laid_of part).base =
      ap (λ b. unwrap_or b fresh.own) is.base in
      let laid : AgreesLaid told size table (alone (laid_of part).base) r =
      agrees_alone table (laid_over (alone fresh.own) draft) (laid_of part).base r base fresh.unmasked
      fresh.laid in
      record {
        agrees = record {
          number = is.number_is;
          min = is.min;
          max = is.max;
          level = is.level;
          field = is.field;
          laid = subst (λ l. AgreesLaid told size table l r) (laid_alone draft part number block is) laid;
        };
        unmasked = is.unmasked;
      }
