-- The texts of replies and of histories (docs/FORMATS.md).
use Rattle.std.specs.Prelude.{ℕ, zero, suc, ◌+◌, List, [], ◌∷◌, ◌++◌, length, map, slice_index_or, codes}
use Rattle.std.specs.List.{flat_map, join_with_byte}
use Rattle.std.specs.Fmt.{decimal}
use Rattle.pj_value.specs.declared.value.Value.{Value}
use Rattle.pj_value.specs.declared.value.Value.TheVariants as values
use Rattle.pj_value.specs.Escaping.{escaped}
use Rattle.pj_journal.specs.declared.entry.Actor.{Actor}
use Rattle.pj_journal.specs.declared.entry.Actor.TheVariants.{Session, Worker}
use Rattle.pj_journal.specs.declared.entry.What.{What}
use Rattle.pj_journal.specs.declared.entry.What.TheVariants as whats
use Rattle.pj_journal.specs.declared.entry.Entry.{Entry}
use Rattle.pj_journal.specs.History.{catalog}
use Rattle.pj_expr.specs.Tables.{names}
use Rattle.pj_bind.specs.declared.types.LimitName.{LimitName}
use Rattle.pj_bind.specs.declared.types.LimitName.TheVariants as limits
use Rattle.pj_bind.specs.declared.types.PartName.{PartName}
use Rattle.pj_bind.specs.declared.types.SourceName.{SourceName}
use Rattle.pj_bind.specs.declared.types.SourceName.TheVariants as sources
use Rattle.pj_bind.specs.declared.types.Refusal.{Refusal}
use Rattle.pj_bind.specs.declared.types.Refusal.TheVariants as refusals
use Rattle.pj_legal.specs.declared.reply.Reply.{Reply}
use Rattle.pj_legal.specs.declared.reply.Reply.TheVariants as replies
use Rattle.pj_legal.specs.Statements.{Shown}

-- a value as it is written
abbrev pub value_text : Value → List ℕ
value_text (values.Num n) = decimal n
value_text (values.Text text) = escaped text

-- a row: its values, parted by tabs
abbrev pub row_text : List Value → List ℕ
row_text row = join_with_byte 9 (map value_text row)

-- the name of a limit
abbrev pub limit_text : LimitName → List ℕ
limit_text limits.Tokens = codes "TOKENS"
limit_text limits.Text = codes "TEXT"
limit_text limits.Tables = codes "TABLES"
limit_text limits.Columns = codes "COLUMNS"
limit_text limits.History = codes "HISTORY"

-- a number of a part's name, behind the sign that parts it from what stands before
abbrev pub name_number : ℕ → List ℕ
name_number n = codes "_" ++ decimal n

-- the number of a part's last mutation, where there was one
abbrev pub name_field : ℕ → List ℕ
name_field zero = []
name_field (suc n) = name_number (suc n)

-- the name of a part, by the blocks that it covers, its level and its last mutation
abbrev pub part_name_text : ℕ → ℕ → ℕ → ℕ → List ℕ
part_name_text min max level field =
    codes "all" ++ name_number min ++ name_number max ++ name_number level ++ name_field field

-- the name of a part
abbrev pub part_text : PartName → List ℕ
part_text part = part_name_text part.min part.max part.level part.field

-- the name of a piece of a part
abbrev pub source_text : SourceName → List ℕ
source_text sources.Base = codes "base"
source_text sources.Mask = codes "mask"

-- a refusal
abbrev pub refusal_text : Refusal → List ℕ
refusal_text (refusals.Syntax at) = codes "SYNTAX_ERROR " ++ decimal at
refusal_text (refusals.Limit limit) = codes "LIMIT " ++ limit_text limit
refusal_text (refusals.UnknownTable name) = codes "UNKNOWN_TABLE " ++ name
refusal_text (refusals.TableExists name) = codes "TABLE_ALREADY_EXISTS " ++ name
refusal_text (refusals.DuplicateColumn name) = codes "DUPLICATE_COLUMN " ++ name
refusal_text (refusals.UnknownIdentifier name) = codes "UNKNOWN_IDENTIFIER " ++ name
refusal_text refusals.TypeMismatch = codes "TYPE_MISMATCH"
refusal_text refusals.NotAnAggregate = codes "NOT_AN_AGGREGATE"
refusal_text refusals.NotBuilt = codes "NOT_BUILT"
refusal_text refusals.StoreFault = codes "STORE_FAULT"
refusal_text (refusals.Damaged part source column granule at) =
    codes "DAMAGED_PART " ++ (part_text part ++
    (32
    ∷ (source_text source ++
    (32 ∷ (decimal column ++ (32 ∷ (decimal granule ++ (32 ∷ decimal at))))))))
refusal_text refusals.NoMemory = codes "NO_MEMORY"

-- what the first text line of a reply announces
abbrev pub announced : Reply → List ℕ
announced replies.Done = codes "ok"
announced (replies.Rows out) = codes "rows " ++ decimal (length out.rows)
announced (replies.Refused refusal) = refusal_text refusal

-- the text lines that follow it
abbrev pub following : Reply → List (List ℕ)
following replies.Done = []
following (replies.Rows out) = map row_text out.rows
following (replies.Refused refusal) = []

-- a text line, with its line feed
abbrev pub as_line : List ℕ → List ℕ
as_line text = text ++ 10 ∷ []

-- a reply: the script's line, the session's name, and what it announces, then the text lines that follow
unfoldable pub reply_text : ℕ → List ℕ → Reply → List ℕ
reply_text line name reply =
    as_line (decimal line ++ (32 ∷ (name ++ (32 ∷ announced reply)))) ++ flat_map as_line (following reply)

-- the name of this number
abbrev pub name_at : List (List ℕ) → ℕ → List ℕ
name_at names number = slice_index_or names number []

-- a reply as it is shown, with the name of its session
abbrev pub shown_text : List (List ℕ) → Shown → List ℕ
shown_text names shown = reply_text shown.line (name_at names shown.session) shown.reply

-- replies, in their order
abbrev pub replies_text : List (List ℕ) → List Shown → List ℕ
replies_text names replies = flat_map (shown_text names) replies

-- who made an entry
abbrev pub actor_text : List (List ℕ) → Actor → List ℕ
actor_text names (Session number) = name_at names number
actor_text names (Worker number) = 42 ∷ decimal number

-- what an entry did, with the names of the tables of its place
abbrev pub what_text : List (List ℕ) → What → List ℕ
what_text tables (whats.Created table) = codes "created " ++ table.name
what_text tables whats.Refused = codes "refused"
what_text tables (whats.Looked table) = codes "looked " ++ name_at tables table
what_text tables (whats.Begun table) = codes "begun " ++ name_at tables table
what_text tables (whats.Inserted table block rows) =
    codes "inserted " ++ (name_at tables table ++ (32 ∷ (decimal block ++ (32 ∷ decimal (length rows.rows)))))

-- the text line of an entry: its number, its actor, its line, and what it did
unfoldable pub entry_text : List (List ℕ) → ℕ → List (List ℕ) → Entry → List ℕ
entry_text sessions number tables entry =
    as_line (decimal number ++
    (32
    ∷ (actor_text sessions entry.actor ++
    (32 ∷ (decimal entry.line ++ (32 ∷ what_text tables entry.what))))))

-- the text lines of entries, `place` being the history before the first
abbrev pub entries_text : List (List ℕ) → List Entry → List Entry → List ℕ
entries_text sessions place [] = []
entries_text sessions place (entry ∷ more) =
    entry_text sessions (length place + 1) (names (catalog place)) entry ++ entries_text sessions
    (place ++ entry ∷ []) more

-- the text of a history
abbrev pub history_text : List (List ℕ) → List Entry → List ℕ
history_text sessions h = as_line (codes "history " ++ decimal (length h)) ++ entries_text sessions [] h
