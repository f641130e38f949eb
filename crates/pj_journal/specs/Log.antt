-- A journal as contracts see it (docs/MODEL.md, "Histories").
use Rattle.std.specs.Prelude.{◌≡◌, ℕ, List, [], length}
use Rattle.pj_journal.specs.declared.entry.Entry.{Entry}

-- the entries, how many there may be, and for how many more room was made
pub record Log : Type 0 where
  pub entries : List Entry
  pub limit : ℕ
  pub spare : ℕ

-- no entry, and no room made
abbrev pub empty_log : ℕ → Log
empty_log limit = record { entries = []; limit = limit; spare = 0 }

-- as many entries as the limit says
abbrev pub IsFull : Log → Type 0
IsFull log = length log.entries ≡ log.limit
