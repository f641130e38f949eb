-- Why a single thread found the journal full (docs/MODEL.md, "A full journal").
use Rattle.std.specs.Prelude.{◌≡◌, ℕ, ◌<◌, ◌≤◌, ◌⊎◌, List, [], ◌∷◌, Some, None, length}
use Rattle.std.specs.Option.{unwrap_or}
use Rattle.std.specs.List.{AllByRecursion}
use Rattle.pj_script.specs.declared.types.Script.{Script}
use Rattle.pj_journal.specs.declared.entry.Actor.TheVariants.{Session}
use Rattle.pj_journal.specs.declared.entry.What.{What}
use Rattle.pj_journal.specs.declared.entry.What.TheVariants as whats
use Rattle.pj_journal.specs.declared.entry.Entry.{Entry}
use Rattle.pj_journal.specs.Moves.{Move, moves_by}
use Rattle.pj_legal.specs.Statements.{Request, statements, requests_by, Shown, shown_to}
use Rattle.pj_legal.specs.Forms.{Course, history_full}
use Rattle.pj_legal.specs.Shares.{Went}
use Rattle.pj_legal.specs.Legal.{lines_run}

-- the move has another behind it
abbrev pub IsOpen : What → Type 0
IsOpen (whats.Created table) = ⊥
IsOpen whats.Refused = ⊥
IsOpen (whats.Looked table) = ⊥
IsOpen (whats.Begun table) = Unit {0}
IsOpen (whats.Inserted table block rows) = ⊥

-- a statement with these moves has one more to make: its first, or one behind an open one
abbrev pub HasNext : List Move → Type 0
HasNext [] = Unit {0}
HasNext (move ∷ []) = IsOpen move.entry.what
HasNext (move ∷ next ∷ more) = ⊥

-- the line to which the next move of a statement belongs
abbrev pub next_line : Request → List Move → ℕ
next_line request [] = request.line
next_line request (move ∷ more) = unwrap_or request.shown request.line

-- the journal was full at a move that belongs to this line: the history holds as many entries as the limit
-- says, and none of them belongs to a line behind
pub record WasFullAt (limit : ℕ) (requests : List Request) (h : List Entry) (line : ℕ) : Type 0 where
  pub full : length h ≡ limit
  pub last : AllByRecursion (λ other. other ≤ line) (lines_run requests h)

-- a statement's reply says that the journal was full exactly where it was full at the statement's next move
pub record TellsFull (limit : ℕ) (requests : List Request) (h : List Entry) (request : Request)
    (course : Course)
    : Type 0 where
  pub only : course.reply ≡ Some history_full → WasFullAt limit requests h (next_line request course.moves)
  pub always :
      WasFullAt limit requests h (next_line request course.moves) → HasNext course.moves
      → (course.reply ≡ Some history_full) ⊎ (course.reply ≡ None)

-- the history has no more entries than the limit says, and each reply tells so where the journal was full
pub record KeepsLimit (limit : ℕ) (script : Script) (h : List Entry) (replies : List Shown) : Type 0 where
  pub within : length h ≤ limit
  pub tells :
      (session : ℕ) → session < length script.names
      → Went (TellsFull limit (statements script) h) (moves_by (Session session) h)
      (requests_by session (statements script)) (shown_to session replies)
