-- The shares of an actor: what a history and the replies say of one session, or of one worker (docs/MODEL.md,
-- "Shares").
use Rattle.std.specs.Prelude.{◌≡◌, ℕ, ◌<◌, ◌≤◌, Bool, List, [], ◌∷◌, Option, Some, None, map, Contains}
use Rattle.std.specs.List.{AllByRecursion}
use Rattle.pj_journal.specs.declared.entry.Actor.TheVariants.{Session, Worker}
use Rattle.pj_journal.specs.declared.entry.What.{What}
use Rattle.pj_journal.specs.declared.entry.What.TheVariants as whats
use Rattle.pj_journal.specs.declared.entry.Entry.{Entry}
use Rattle.pj_journal.specs.Moves.{Move, moves_by, for_line}
use Rattle.pj_legal.specs.declared.reply.Reply.{Reply}
use Rattle.pj_legal.specs.Statements.{Request, Shown}
use Rattle.pj_legal.specs.Forms.{Course, Form}

-- the lines never fall, from this one on
abbrev pub NeverFall : ℕ → List ℕ → Type 0
NeverFall low [] = Unit {0}
NeverFall low (line ∷ more) = (low ≤ line) × NeverFall line more

-- the lines rise, each above the one before
abbrev pub Rise : ℕ → List ℕ → Type 0
Rise low [] = Unit {0}
Rise low (line ∷ more) = (low < line) × Rise line more

-- the lines of moves
abbrev pub lines_of : List Move → List ℕ
lines_of ms = map (λ move. move.entry.line) ms

-- the first of the replies stands at the line that shows it, where one does, and fits; and the others do
abbrev pub Takes : Option ℕ → (Option Reply → Type 0) → (List Shown → Type 0) → List Shown → Type 0
Takes None this others replies = this None × others replies
Takes (Some line) this others [] = ⊥
Takes (Some line) this others (shown ∷ more) = (shown.line ≡ line) × this (Some shown.reply) × others more

-- each statement went so, by those of the moves that are for its line and by its reply; and there are no
-- other replies
abbrev pub Went : (Request → Course → Type 0) → List Move → List Request → List Shown → Type 0
Went so mine [] replies = replies ≡ []
Went so mine (request ∷ requests) replies =
    Takes request.shown (λ reply. so request (record { moves = for_line request.line mine; reply = reply }))
    (Went so mine requests) replies

-- the share of a session, whose statements and replies these are
pub record SessionShare (told : Bool) (session : ℕ) (requests : List Request) (h : List Entry)
    (replies : List Shown)
    : Type 0 where
  pub owned :
      AllByRecursion (λ move. Contains (map (λ request. request.line) requests) move.entry.line)
      (moves_by (Session session) h)
  pub order : NeverFall 0 (lines_of (moves_by (Session session) h))
  pub answered : Went (Form told) (moves_by (Session session) h) requests replies

-- what a worker's task may add to a place: none of the entries that are built
abbrev pub IsTask : List Entry → What → Type 0
IsTask place (whats.Created table) = ⊥
IsTask place whats.Refused = ⊥
IsTask place (whats.Looked table) = ⊥
IsTask place (whats.Begun table) = ⊥
IsTask place (whats.Inserted table block rows) = ⊥

-- the share of a worker: each of its entries is that of a task, and the numbers of its tasks rise
pub record WorkerShare (worker : ℕ) (h : List Entry) : Type 0 where
  pub tasks : AllByRecursion (λ move. IsTask move.place move.entry.what) (moves_by (Worker worker) h)
  pub order : Rise 0 (lines_of (moves_by (Worker worker) h))
