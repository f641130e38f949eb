-- Histories written out, and what legality says of them, whether the port's blobs tell their bytes or not.
-- The tests cite this file.
use Rattle.std.specs.Prelude.{◌≡◌, ℕ, Bool, List, [], ◌∷◌, Option, Some, None}
use Rattle.pj_value.specs.Rows.{KindedRows}
use Rattle.pj_script.specs.declared.types.Act.TheVariants.{Whole}
use Rattle.pj_script.specs.declared.types.Script.{Script}
use Rattle.pj_expr.specs.declared.table.Table.{Table}
use Rattle.pj_journal.specs.declared.entry.Actor.{Actor}
use Rattle.pj_journal.specs.declared.entry.Actor.TheVariants.{Session, Worker}
use Rattle.pj_journal.specs.declared.entry.What.{What}
use Rattle.pj_journal.specs.declared.entry.What.TheVariants.{Created, Looked, Begun, Inserted}
use Rattle.pj_journal.specs.declared.entry.Entry.{Entry}
use Rattle.pj_bind.specs.declared.types.Bound.TheVariants as bounds
use Rattle.pj_legal.specs.declared.reply.Reply.{Reply}
use Rattle.pj_legal.specs.declared.reply.Reply.TheVariants.{Done}
use Rattle.pj_legal.specs.Bodies.{BodyBinds}
use Rattle.pj_legal.specs.Statements.{Request, whole, Shown}
use Rattle.pj_legal.specs.Forms.{history_full}
use Rattle.pj_legal.specs.Shares.{SessionShare}
use Rattle.pj_legal.specs.Full.{KeepsLimit}

-- a table, rows, and bodies that create the one and insert the others
pub record Given : Type 0 where
  pub table : Table
  pub rows : KindedRows
  pub create : List ℕ
  pub insert : List ℕ
  pub creates : BodyBinds [] create (bounds.Create table)
  pub inserts : BodyBinds (table ∷ []) insert (bounds.Insert 0 rows)

-- an entry
abbrev pub entry : Actor → ℕ → What → Entry
entry actor line what = record { actor = actor; line = line; what = what }

-- session 0 creates the table on line 1 and begins an INSERT on line 2, which this line ends
abbrev pub inserting : Given → Option ℕ → List Request
inserting given shown =
    whole 1 0 given.create ∷ record { line = 2; session = 0; body = given.insert; shown = shown } ∷ []

-- that it is done, at a line
abbrev pub done_at : ℕ → Shown
done_at line = record { line = line; session = 0; reply = Done }

-- the history in which the INSERT ends, with these entries between its two
abbrev pub inserted : Given → List Entry → List Entry
inserted given [] =
    entry (Session 0) 1 (Created given.table) ∷ entry (Session 0) 2 (Begun 0)
    ∷ entry (Session 0) 2 (Inserted 0 1 given.rows) ∷ []
inserted given (between ∷ more) =
    entry (Session 0) 1 (Created given.table) ∷ entry (Session 0) 2 (Begun 0) ∷ between
    ∷ entry (Session 0) 2 (Inserted 0 1 given.rows) ∷ []

-- another session may move between the moves of an INSERT, which line 4 ends
abbrev pub AnotherSessionMoves : Type 0
AnotherSessionMoves =
    (told : Bool) (given : Given)
    → SessionShare told 0 (inserting given (Some 4)) (inserted given (entry (Session 1) 3 (Looked 0) ∷ []))
    (done_at 1 ∷ done_at 4 ∷ [])

-- a worker's entry disturbs no session, also where its task has the number of a line
abbrev pub WorkerDisturbsNothing : Type 0
WorkerDisturbsNothing =
    (told : Bool) (given : Given)
    → SessionShare told 0 (inserting given (Some 2)) (inserted given (entry (Worker 1) 2 (Begun 0) ∷ []))
    (done_at 1 ∷ done_at 2 ∷ [])

-- a statement that never ends has its first move, and no reply
abbrev pub NeverEnds : Type 0
NeverEnds =
    (told : Bool) (given : Given)
    → SessionShare told 0 (inserting given None)
    (entry (Session 0) 1 (Created given.table) ∷ entry (Session 0) 2 (Begun 0) ∷ []) (done_at 1 ∷ [])

-- but it doesn't commit
abbrev pub NeverCommits : Type 0
NeverCommits =
    (told : Bool) (given : Given)
    → SessionShare told 0 (inserting given None) (inserted given []) (done_at 1 ∷ []) → ⊥

-- a reply doesn't stand at the line where its statement began, if another line ends it
abbrev pub NoReplyAtTheStart : Type 0
NoReplyAtTheStart =
    (told : Bool) (given : Given)
    → SessionShare told 0 (inserting given (Some 4)) (inserted given []) (done_at 1 ∷ done_at 2 ∷ []) → ⊥

-- another session's entry is not one's own
abbrev pub NotOnesOwn : Type 0
NotOnesOwn =
    (told : Bool) (given : Given)
    → SessionShare told 0 (inserting given (Some 2))
    (entry (Session 0) 1 (Created given.table) ∷ entry (Session 0) 2 (Begun 0)
    ∷ entry (Session 1) 2 (Inserted 0 1 given.rows) ∷ [])
    (done_at 1 ∷ done_at 2 ∷ [])
    → ⊥

-- a script of one statement
abbrev pub one_line : List ℕ → Script
one_line body = record {
  names = (97 ∷ []) ∷ [];
  lines = record { line = 1; name = 0; act = Whole body } ∷ [];
}

-- no reply says that the journal is full while it has room left
abbrev pub NotFullWithRoomLeft : Type 0
NotFullWithRoomLeft =
    (body : List ℕ)
    → KeepsLimit 1 (one_line body) [] (record { line = 1; session = 0; reply = history_full } ∷ []) → ⊥

-- and each says so where it has none
abbrev pub FullWithNoRoomLeft : Type 0
FullWithNoRoomLeft =
    (body : List ℕ) (reply : Reply)
    → KeepsLimit 0 (one_line body) [] (record { line = 1; session = 0; reply = reply } ∷ [])
    → reply ≡ history_full
