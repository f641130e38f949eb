-- How the server's state stands for its history. No public contract cites this file.
use Rattle.std.specs.Prelude.{◌≡◌, ◌<◌, ◌≤◌, ℕ, List, [], Option, Some, None, length, slice_index_or, slice_get}
use Rattle.std.specs.List.{AllZip}
use Rattle.pj_expr.specs.declared.table.Table.{Table}
use Rattle.pj_expr.specs.Parts.{PartRecord}
use Rattle.pj_part.specs.declared.part.Part.{Part}
use Rattle.pj_part.specs.Agreement.{Agrees}
use Rattle.pj_journal.specs.declared.entry.Entry.{Entry}
use Rattle.pj_journal.specs.History.{catalog, next, IsRegular}
use Rattle.pj_journal.specs.Parts.{parts}
use Rattle.pj_server.specs.declared.store.Store.{Store}

module _ {B : Type 0} (told : B → Option (List ℕ)) (size : B → ℕ) where
  -- a part agrees with its record, and has no mask
  pub record PartStands (table : Table) (part : Part B) (r : PartRecord) : Type 0 where
    pub agrees : Agrees told size table part r
    pub unmasked : part.mask ≡ None

  -- the store has the parts of the table of this number, and its next number
  pub record StoreStands (h : List Entry) (t : ℕ) (store : Store B) : Type 0 where
    pub live : (table : Table) → slice_get (catalog h) t ≡ Some table
        → AllZip (PartStands table) store.parts.items (parts h t)
    pub number : store.next ≡ next h t

  -- tables and stores are those that the history leaves, and a table that isn't there has no part and has
  -- drawn no number
  pub record Stands (h : List Entry) (held : List Table) (stores : List (Store B)) : Type 0 where
    pub regular : IsRegular h
    pub tables : held ≡ catalog h
    pub one_each : length stores ≡ length held
    pub each : (t : ℕ) (d : Store B) → t < length stores → StoreStands h t (slice_index_or stores t d)
    pub later : (t : ℕ) → length held ≤ t → (parts h t ≡ []) × (next h t ≡ 1)
