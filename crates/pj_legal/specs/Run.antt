-- Whole statements one after the other, as one thread runs them. A run is legal (`runs_are_legal`).
use Rattle.std.specs.Prelude.{◌≡◌, ℕ, ◌+◌, Bool, List, [], ◌∷◌, ◌++◌, Some, length, take}
use Rattle.pj_script.specs.declared.types.Script.{Script}
use Rattle.pj_journal.specs.declared.entry.Entry.{Entry}
use Rattle.pj_journal.specs.Moves.{moves_from}
use Rattle.pj_legal.specs.declared.reply.Reply.{Reply}
use Rattle.pj_legal.specs.Statements.{Request, Shown}
use Rattle.pj_legal.specs.Forms.{Course, Form, history_full}
use Rattle.pj_legal.specs.Full.{HasNext}

-- how a statement went that added these entries to its place, and got this reply
abbrev pub course : List Entry → List Entry → Reply → Course
course place added reply = record { moves = moves_from place added; reply = Some reply }

-- the statement ran from its place: it added these entries, and got this reply
pub record IsStep (told : Bool) (limit : ℕ) (place : List Entry) (request : Request) (added : List Entry)
    (reply : Reply)
    : Type 0 where
  pub form : Form told request (course place added reply)
  pub full : reply ≡ history_full → length place + length added ≡ limit
  pub always : length place + length added ≡ limit → HasNext (moves_from place added) → reply ≡ history_full

-- the reply to a statement, at its line
abbrev pub shown_at : Request → Reply → Shown
shown_at request reply = record { line = request.line; session = request.session; reply = reply }

-- the statements lead from one history to the other, each with its reply
abbrev pub Run : Bool → ℕ → List Entry → List Request → List Shown → List Entry → Type 0
Run told limit place [] [] end = end ≡ place
Run told limit place [] (shown ∷ more) end = ⊥
Run told limit place (request ∷ requests) [] end = ⊥
Run told limit place (request ∷ requests) (shown ∷ more) end =
    (shown ≡ shown_at request shown.reply)
    × ((added : List Entry) × IsStep told limit place request added shown.reply
    × Run told limit (place ++ added) requests more end)

-- the script with its first lines alone
abbrev pub cut : ℕ → Script → Script
cut n script = record script { lines = take n script.lines }
