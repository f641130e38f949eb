-- Shares in longer histories.
use Rattle.std.proofs.Common.{◌≡◌, ℕ, ◌<◌, ◌++◌, Bool, List, length, sym, subst}
use Rattle.std.specs.Prelude.{map, Contains}
use Rattle.std.specs.List.{AllByRecursion}
use Rattle.pj_script.specs.declared.types.Script.{Script}
use Rattle.pj_journal.specs.declared.entry.Actor.TheVariants.{Session, Worker}
use Rattle.pj_journal.specs.declared.entry.Entry.{Entry}
use Rattle.pj_journal.specs.History.{IsRegular}
use Rattle.pj_journal.specs.Moves.{Move, moves_by}
use Rattle.pj_legal.specs.Statements.{Request, statements, requests_by, Shown, shown_to}
use Rattle.pj_legal.specs.Forms.{Form}
use Rattle.pj_legal.specs.Shares.{SessionShare, WorkerShare, Went, NeverFall, Rise, IsTask, lines_of}
use Rattle.pj_legal.specs.Legal.{IsActor, IsLegal}
use Rattle.pj_legal.specs.Joining.{AreNotBy, HoldsInPrefix}
use Rattle.pj_legal.proofs.histories.MoveLemmas.{moves_by-more}

-- a session's share, where it makes no more moves
pub SessionShare-more : (told : Bool) (session : ℕ) (requests : List Request) (h more : List Entry)
    (replies : List Shown) → AreNotBy (Session session) more → SessionShare told session requests h replies
    → SessionShare told session requests (h ++ more) replies
SessionShare-more told session requests h more replies none share =
    let same : moves_by (Session session) h ≡ moves_by (Session session) (h ++ more) =
    sym (moves_by-more (Session session) h more none) in
    record {
      owned =
          subst (AllByRecursion (λ (m : Move). Contains (map (λ
          (s : Request). s.line) requests) m.entry.line))
          same share.owned;
      order = subst (λ (ms : List Move). NeverFall 0 (lines_of ms)) same share.order;
      answered = subst (λ (ms : List Move). Went (Form told) ms requests replies) same share.answered;
    }

-- a worker's
pub WorkerShare-more : (worker : ℕ) (h more : List Entry) → AreNotBy (Worker worker) more
    → WorkerShare worker h → WorkerShare worker (h ++ more)
WorkerShare-more worker h more none share =
    let same : moves_by (Worker worker) h ≡ moves_by (Worker worker) (h ++ more) =
    sym (moves_by-more (Worker worker) h more none) in
    record {
      tasks = subst (AllByRecursion (λ (m : Move). IsTask m.place m.entry.what)) same share.tasks;
      order = subst (λ (ms : List Move). Rise 0 (lines_of ms)) same share.order;
    }

-- shares, each of a prefix, make a legal history
pub IsLegal-shares : (told : Bool) (script : Script) (h : List Entry) (replies : List Shown)
    → IsRegular h → AllByRecursion (λ entry. IsActor (length script.names) entry.actor) h
    → AllByRecursion (λ shown. shown.session < length script.names) replies
    → ((session : ℕ) → session < length script.names
    → HoldsInPrefix (Session session) h (λ seen. SessionShare told session (requests_by session
    (statements script))
    seen (shown_to session replies)))
    → ((worker : ℕ) → HoldsInPrefix (Worker worker) h (λ seen. WorkerShare worker seen))
    → IsLegal told script h replies
IsLegal-shares told script h replies regular actors heard sessions workers = record {
  regular = regular;
  actors = actors;
  heard = heard;
  sessions = λ session there.
      let one = sessions session there in
      let requests : List Request = requests_by session (statements script) in
      let mine : List Shown = shown_to session replies in
      subst (λ (es : List Entry). SessionShare told session requests es mine) (sym one.whole)
      (SessionShare-more told session requests one.seen one.more mine one.none one.holds);
  workers = λ worker.
      let one = workers worker in
      subst (WorkerShare worker) (sym one.whole)
      (WorkerShare-more worker one.seen one.more one.none one.holds);
}
