-- The records of the parts that a history leaves (docs/MODEL.md, "Part records").
use Rattle.std.specs.Prelude.{◌≡◌, ℕ, ◌+◌, ◌==◌, if◌then◌else◌, true, List, [], ◌∷◌, ◌++◌, length, map, fold}
use Rattle.std.specs.List.{flat_map}
use Rattle.pj_value.specs.declared.value.Value.{Value}
use Rattle.pj_expr.specs.Parts.{PartRow, PartRecord, living}
use Rattle.pj_journal.specs.declared.entry.What.{What}
use Rattle.pj_journal.specs.declared.entry.What.TheVariants.{Created, Refused, Looked, Begun, Inserted}
use Rattle.pj_journal.specs.declared.entry.Entry.{Entry}
use Rattle.pj_journal.specs.History.{blocks, rows}

-- a row of an INSERT
abbrev pub fresh : List Value → PartRow
fresh row = record { row = row; living = true }

-- the record of the part that an INSERT makes: of one block, never merged, without mutations or copies
abbrev pub inserted : ℕ → ℕ → List (List Value) → PartRecord
inserted number block rows = record {
  number = number;
  min = block;
  max = block;
  level = 0;
  field = 0;
  base = map fresh rows;
  ids = [];
}

-- the records of a table after a move: parts are numbered from 1
abbrev pub parts_on : ℕ → List PartRecord → What → List PartRecord
parts_on t parts (Created table) = parts
parts_on t parts Refused = parts
parts_on t parts (Looked table) = parts
parts_on t parts (Begun table) = parts
parts_on t parts (Inserted table block rows) =
    if table == t then parts ++ inserted (1 + length parts) block rows.rows ∷ [] else parts

-- the records of a table's parts, by their blocks
abbrev pub parts : List Entry → ℕ → List PartRecord
parts h t = fold (λ parts entry. parts_on t parts entry.what) [] h

-- the living rows of a table's parts are its rows
abbrev pub PartsHoldTheRows : Type 0
PartsHoldTheRows = (h : List Entry) (t : ℕ) → flat_map living (parts h t) ≡ rows h t

-- and each block is in one of them
abbrev pub PartsAreOfBlocks : Type 0
PartsAreOfBlocks =
    (h : List Entry) (t : ℕ)
    → (map (λ part. part.min) (parts h t) ≡ map (λ block. block.number) (blocks h t))
    × (map (λ part. part.max) (parts h t) ≡ map (λ block. block.number) (blocks h t))
