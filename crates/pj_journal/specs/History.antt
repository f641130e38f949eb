-- What a history leaves: the catalog, the blocks and rows of a table, the next number (docs/MODEL.md,
-- "Histories").
use Rattle.std.specs.Prelude.{◌≡◌, ◌<◌, ℕ, ◌+◌, List, [], ◌∷◌, ◌++◌, length, fold}
use Rattle.std.specs.Prelude.{◌==◌, if◌then◌else◌, Option, Some, None, slice_get, Contains}
use Rattle.std.specs.List.{flat_map}
use Rattle.pj_value.specs.declared.value.Kind.{Kind}
use Rattle.pj_value.specs.declared.value.Value.{Value}
use Rattle.pj_value.specs.Rows.{KindedRows, HaveKinds}
use Rattle.pj_expr.specs.declared.table.Table.{Table}
use Rattle.pj_expr.specs.Tables.{names, kinds_of, TableFits}
use Rattle.pj_journal.specs.declared.entry.What.{What}
use Rattle.pj_journal.specs.declared.entry.What.TheVariants.{Created, Refused, Looked, Begun, Inserted}
use Rattle.pj_journal.specs.declared.entry.Entry.{Entry}

-- the tables after a move
abbrev pub catalog_on : List Table → What → List Table
catalog_on tables (Created table) = tables ++ table ∷ []
catalog_on tables Refused = tables
catalog_on tables (Looked table) = tables
catalog_on tables (Begun table) = tables
catalog_on tables (Inserted table block rows) = tables

-- the tables that a history leaves, in the order of their numbers
abbrev pub catalog : List Entry → List Table
catalog h = fold (λ tables entry. catalog_on tables entry.what) [] h

-- rows that one INSERT committed, with their number
pub record Block : Type 0 where
  pub number : ℕ
  pub rows : List (List Value)

-- the blocks of a table after a move
abbrev pub blocks_on : ℕ → List Block → What → List Block
blocks_on t blocks (Created table) = blocks
blocks_on t blocks Refused = blocks
blocks_on t blocks (Looked table) = blocks
blocks_on t blocks (Begun table) = blocks
blocks_on t blocks (Inserted table block rows) =
    if table == t then blocks ++ record { number = block; rows = rows.rows } ∷ [] else blocks

-- the blocks of a table, in the order in which they were committed
abbrev pub blocks : List Entry → ℕ → List Block
blocks h t = fold (λ bs entry. blocks_on t bs entry.what) [] h

-- the rows of a table
abbrev pub rows : List Entry → ℕ → List (List Value)
rows h t = flat_map (λ block. block.rows) (blocks h t)

-- the kinds of a table's columns, none where it isn't there
abbrev pub kinds_at : Option Table → List Kind
kinds_at None = []
kinds_at (Some table) = kinds_of table

-- a table as a query reads it: its rows, with the kinds of its columns
abbrev pub table_rows : List Entry → ℕ → KindedRows
table_rows h t = record { kinds = kinds_at (slice_get (catalog h) t); rows = rows h t }

-- the next number of a table after a move
abbrev pub next_on : ℕ → ℕ → What → ℕ
next_on t n (Created table) = n
next_on t n Refused = n
next_on t n (Looked table) = n
next_on t n (Begun table) = n
next_on t n (Inserted table block rows) = if table == t then n + 1 else n

-- the number that the table draws next, from 1
abbrev pub next : List Entry → ℕ → ℕ
next h t = fold (λ n entry. next_on t n entry.what) 1 h

-- the move fits the history before it: names are new and tables may be made, tables are there, numbers are
-- the next ones, rows have the kinds of their table
abbrev pub WhatFits : List Entry → What → Type 0
WhatFits place (Created table) = (Contains (names (catalog place)) table.name → ⊥) × TableFits table
WhatFits place Refused = Unit {0}
WhatFits place (Looked table) = table < length (catalog place)
WhatFits place (Begun table) = table < length (catalog place)
WhatFits place (Inserted table block rows) =
    (block ≡ next place table)
    × ((at : Table) × (slice_get (catalog place) table ≡ Some at) × (rows.kinds ≡ kinds_of at))
    × HaveKinds rows.kinds rows.rows

-- each entry fits the history before it, `place` being that before the first
abbrev pub IsRegularFrom : List Entry → List Entry → Type 0
IsRegularFrom place [] = Unit {0}
IsRegularFrom place (entry ∷ more) = WhatFits place entry.what × IsRegularFrom (place ++ entry ∷ []) more

-- each entry of the history fits what is before it
abbrev pub IsRegular : List Entry → Type 0
IsRegular h = IsRegularFrom [] h
