-- What contracts see of the live parts of a table, and of snapshots (docs/MODEL.md, "Snapshots").
use Rattle.std.specs.Prelude.{◌≡◌, ℕ, ◌+◌, ◌<◌, ◌≤◌, ◌==◌, List, [], ◌∷◌, ◌++◌, filter, not, All, AllPairs}
use Rattle.pj_expr.specs.declared.table.Table.{Table}
use Rattle.pj_part.specs.declared.part.Part.{Part}

-- a pin: its number, and the parts that stay for its snapshot
pub record Pinned (B : Type 0) : Type 0 where
  pub number : ℕ
  pub parts : List (Part B)

-- the live parts of a table, in the order of their blocks; the pins of its open snapshots, in the order in which they
-- were made; and the number of the next pin
pub record Held (B : Type 0) : Type 0 where
  pub live : List (Part B)
  pub pins : List (Pinned B)
  pub next : ℕ

-- a snapshot: the number of its table, the table, its parts, the number of its pin, and how many entries the journal had
pub record Seen (B : Type 0) : Type 0 where
  pub number : ℕ
  pub table : Table
  pub parts : List (Part B)
  pub pin : ℕ
  pub place : ℕ

module _ {B : Type 0} where
  -- no part and no pin
  abbrev pub empty : Held B
  empty = record { live = []; pins = []; next = 1 }

  -- with these parts behind the others
  abbrev pub added : Held B → List (Part B) → Held B
  added s fresh = record s { live = s.live ++ fresh }

  -- with one pin more, of all live parts
  abbrev pub pinned : Held B → Held B
  pinned s = record s { pins = s.pins ++ record { number = s.next; parts = s.live } ∷ []; next = s.next + 1 }

  -- the snapshot that such a pin is made for
  abbrev pub snapshot_of : Held B → ℕ → Table → ℕ → Seen B
  snapshot_of s number table place =
      record { number = number; table = table; parts = s.live; pin = s.next; place = place }

  -- without the pin of this number
  abbrev pub unpinned : Held B → ℕ → Held B
  unpinned s pin = record s { pins = filter (λ p. not (p.number == pin)) s.pins }

  -- parts in the order of their blocks, each block in one of them at most
  pub record AreInOrder (live : List (Part B)) : Type 0 where
    pub each : All (λ p. p.min ≤ p.max) live
    pub apart : AllPairs (λ p q. p.max < q.min) live

  -- a part of one block, above all that these parts cover
  pub record IsNext (live : List (Part B)) (part : Part B) : Type 0 where
    pub above : All (λ p. p.max < part.min) live
    pub one : part.min ≡ part.max

  -- parts that can be added one behind the other
  abbrev pub AreNext : List (Part B) → List (Part B) → Type 0
  AreNext live [] = Unit {0}
  AreNext live (part ∷ parts) = IsNext live part × AreNext (live ++ part ∷ []) parts

  -- pins that were made before the one of this number
  abbrev pub AreBefore : ℕ → List (Pinned B) → Type 0
  AreBefore next pins = All (λ p. p.number < next) pins
