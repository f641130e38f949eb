-- Shares are joined to a legal history (docs/MODEL.md, "Shares"). On this law threads will stand, each of
-- which knows a prefix of the history.
use Rattle.std.specs.Prelude.{◌≡◌, ℕ, ◌<◌, Bool, false, List, ◌++◌, length}
use Rattle.std.specs.List.{AllByRecursion}
use Rattle.pj_script.specs.declared.types.Script.{Script}
use Rattle.pj_journal.specs.declared.entry.Actor.{Actor}
use Rattle.pj_journal.specs.declared.entry.Actor.TheVariants.{Session, Worker}
use Rattle.pj_journal.specs.declared.entry.Entry.{Entry}
use Rattle.pj_journal.specs.History.{IsRegular}
use Rattle.pj_journal.specs.Moves.{is_by}
use Rattle.pj_legal.specs.Statements.{Request, statements, requests_by, Shown, shown_to}
use Rattle.pj_legal.specs.Shares.{SessionShare, WorkerShare}
use Rattle.pj_legal.specs.Legal.{IsActor, IsLegal}

-- no entry is of the actor
abbrev pub AreNotBy : Actor → List Entry → Type 0
AreNotBy actor es = AllByRecursion (λ entry. is_by actor entry ≡ false) es

-- a session's share holds in each longer history that has no further entry of it
abbrev pub SessionSharesGoOn : Type 0
SessionSharesGoOn =
    (told : Bool) (session : ℕ) (requests : List Request) (h more : List Entry) (replies : List Shown)
    → AreNotBy (Session session) more → SessionShare told session requests h replies
    → SessionShare told session requests (h ++ more) replies

-- and so does a worker's
abbrev pub WorkerSharesGoOn : Type 0
WorkerSharesGoOn =
    (worker : ℕ) (h more : List Entry) → AreNotBy (Worker worker) more → WorkerShare worker h
    → WorkerShare worker (h ++ more)

-- a prefix of the history has all entries of the actor, and the share holds in it
pub record HoldsInPrefix (actor : Actor) (h : List Entry) (share : List Entry → Type 0) : Type 0 where
  pub seen : List Entry
  pub more : List Entry
  pub whole : h ≡ seen ++ more
  pub none : AreNotBy actor more
  pub holds : share seen

-- a regular history of a script's sessions and of workers is legal where each has its share in such a prefix
abbrev pub SharesAreLegal : Type 0
SharesAreLegal =
    (told : Bool) (script : Script) (h : List Entry) (replies : List Shown)
    → IsRegular h → AllByRecursion (λ entry. IsActor (length script.names) entry.actor) h
    → AllByRecursion (λ shown. shown.session < length script.names) replies
    → ((session : ℕ) → session < length script.names
    → HoldsInPrefix (Session session) h (λ seen. SessionShare told session (requests_by session
    (statements script))
    seen (shown_to session replies)))
    → ((worker : ℕ) → HoldsInPrefix (Worker worker) h (λ seen. WorkerShare worker seen))
    → IsLegal told script h replies
