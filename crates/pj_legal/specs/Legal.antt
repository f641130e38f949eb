-- Legal histories (docs/MODEL.md, "Legal histories"). `told` is whether the blobs of the port tell their
-- bytes.
use Rattle.std.specs.Prelude.{ℕ, ◌<◌, ◌==◌, Bool, List, length, map, if◌then◌else◌}
use Rattle.std.specs.Option.{option_and_then, unwrap_or}
use Rattle.std.specs.List.{AllByRecursion, find}
use Rattle.pj_script.specs.declared.types.Script.{Script}
use Rattle.pj_journal.specs.declared.entry.Actor.{Actor}
use Rattle.pj_journal.specs.declared.entry.Actor.TheVariants.{Session, Worker}
use Rattle.pj_journal.specs.declared.entry.Entry.{Entry}
use Rattle.pj_journal.specs.History.{IsRegular}
use Rattle.pj_journal.specs.Moves.{Move, moves, has_moved}
use Rattle.pj_legal.specs.Statements.{Request, statements, requests_by, Shown, shown_to}
use Rattle.pj_legal.specs.Shares.{SessionShare, WorkerShare, NeverFall, Rise}

-- the actor is one of so many sessions, or a worker
abbrev pub IsActor : ℕ → Actor → Type 0
IsActor count (Session session) = session < count
IsActor count (Worker worker) = Unit {0}

-- the history is one of the script, with these replies to its statements
pub record IsLegal (told : Bool) (script : Script) (h : List Entry) (replies : List Shown) : Type 0 where
  pub regular : IsRegular h
  pub actors : AllByRecursion (λ entry. IsActor (length script.names) entry.actor) h
  pub heard : AllByRecursion (λ shown. shown.session < length script.names) replies
  pub sessions :
      (session : ℕ) → session < length script.names
      → SessionShare told session (requests_by session (statements script)) h (shown_to session replies)
  pub workers : (worker : ℕ) → WorkerShare worker h

-- the line that shows the reply to the statement of a line, and that line itself where none does
abbrev pub end_of : List Request → ℕ → ℕ
end_of requests line =
    unwrap_or (option_and_then (λ request. request.shown) (find
    (λ request. request.line == line) requests)) line

-- the line to which a move belongs: a statement's first move to its own, and a further one to that which ends
-- the statement
abbrev pub belongs_to : List Request → Move → ℕ
belongs_to requests move =
    if has_moved move.entry.actor move.entry.line move.place then end_of requests move.entry.line
    else move.entry.line

-- the lines to which the moves of a history belong
abbrev pub lines_run : List Request → List Entry → List ℕ
lines_run requests h = map (belongs_to requests) (moves h)

-- the actor is no worker
abbrev pub IsSession : Actor → Type 0
IsSession (Session session) = Unit {0}
IsSession (Worker worker) = ⊥

-- the history is legal and that of a single thread, which ran the lines of the script in their order
pub record IsPlayed (told : Bool) (script : Script) (h : List Entry) (replies : List Shown) : Type 0 where
  pub legal : IsLegal told script h replies
  pub alone : AllByRecursion (λ entry. IsSession entry.actor) h
  pub order : NeverFall 0 (lines_run (statements script) h)
  pub shown : Rise 0 (map (λ shown. shown.line) replies)
