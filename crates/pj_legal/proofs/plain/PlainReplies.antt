-- What holds of each legal reply. A name that it gives is a word of the statement's body, so it has no line
-- feed; and where blobs tell their bytes, it tells of no damaged granule.
use Rattle.std.proofs.Common.{◌≡◌, ℕ, ◌<◌, Bool, true, false, cond, List, [], ◌∷◌, length}
use Rattle.std.proofs.Common.{Option, None, Some, sym, refl, ◌∙◌, subst, inl, inr}
use Rattle.std.specs.Prelude.{◌==◌}
use Rattle.std.specs.List.{AllByRecursion}
use Rattle.std.proofs.lemmas.Bool.{eq-eqb, false≢true}
use Rattle.std.proofs.lemmas.Option.{none-some, same_Some}
use Rattle.pj_script.specs.declared.types.Script.{Script}
use Rattle.pj_journal.specs.declared.entry.Entry.{Entry}
use Rattle.pj_journal.specs.declared.entry.Actor.TheVariants.{Session}
use Rattle.pj_journal.specs.History.{catalog}
use Rattle.pj_journal.specs.Moves.{Move, moves_by, for_line}
use Rattle.pj_legal.specs.declared.reply.Reply.{Reply}
use Rattle.pj_legal.specs.declared.reply.Reply.TheVariants as replies
use Rattle.pj_bind.specs.declared.types.Refusal.{Refusal}
use Rattle.pj_bind.specs.declared.types.Refusal.TheVariants as refusals
use Rattle.pj_bind.specs.declared.types.Bound.{Bound}
use Rattle.pj_bind.specs.declared.types.Bound.TheVariants as bounds
use Rattle.pj_legal.specs.Statements.{Request, statements, requests_by, Shown, shown_to}
use Rattle.pj_legal.specs.Forms.{Course, BoundForm, Form}
use Rattle.pj_legal.specs.Shares.{Takes, Went}
use Rattle.pj_legal.specs.Legal.{IsLegal}
use Rattle.pj_legal.specs.Laws.{IsPlain, TellsNoDamage}
use Rattle.pj_legal.proofs.Refusals.{IsOfBody, plain-refusal}

-- a bound statement's reply gives no name
IsPlain-bound : (told : Bool) (place : List Entry) (request : Request) (bound : Bound) (course : Course)
    (reply : Reply) → course.reply ≡ Some reply → BoundForm told place request bound course → IsPlain reply
IsPlain-bound told place request (bounds.Create table) course reply is form =
    subst IsPlain (same_Some _ _ (sym form.1 ∙ is)) tt
IsPlain-bound told place request (bounds.Insert table rows) course reply is form =
    subst IsPlain (same_Some _ _ (sym form.3 ∙ is)) tt
IsPlain-bound told place request (bounds.Select table query) course reply is form =
    subst IsPlain (same_Some _ _ (sym form.4 ∙ is)) tt

-- no form's reply gives a name with a line feed
IsPlain-form : (told : Bool) (request : Request) (course : Course) (reply : Reply)
    → course.reply ≡ Some reply → Form told request course
    → IsPlain reply
IsPlain-form told request course reply is (inl refused) =
    subst IsPlain (same_Some _ _ (sym refused.reply ∙ is))
    (plain-refusal (catalog refused.place) request.body refused.refusal refused.cause).0
IsPlain-form told request course reply is (inr (inl done)) =
    IsPlain-bound told done.place request done.bound course reply is done.form
IsPlain-form told request course reply is (inr (inr (inl starved))) =
    subst IsPlain (same_Some _ _ (sym starved.reply ∙ is)) tt
IsPlain-form told request course reply is (inr (inr (inr (inl out)))) =
    subst IsPlain (same_Some _ _ (sym out.reply ∙ is)) tt
IsPlain-form told request course reply is (inr (inr (inr (inr (inl faulted))))) =
    subst IsPlain (same_Some _ _ (sym faulted.reply ∙ is)) tt
IsPlain-form told request course reply is (inr (inr (inr (inr (inr (inl damaged)))))) =
    subst IsPlain (same_Some _ _ (sym damaged.reply ∙ is)) tt
IsPlain-form told request course reply is (inr (inr (inr (inr (inr (inr left)))))) =
    absurd (none-some reply (sym left.reply ∙ is))

-- a refusal that is of a body tells of no damaged granule
TellsNoDamage-body : (refusal : Refusal) → IsOfBody refusal → TellsNoDamage (replies.Refused refusal)
TellsNoDamage-body (refusals.Damaged part source column granule at) of = absurd of
TellsNoDamage-body refusal of = tt

-- nor does a bound statement's reply
TellsNoDamage-bound : (told : Bool) (place : List Entry) (request : Request) (bound : Bound) (course : Course)
    (reply : Reply) → course.reply ≡ Some reply → BoundForm told place request bound course
    → TellsNoDamage reply
TellsNoDamage-bound told place request (bounds.Create table) course reply is form =
    subst TellsNoDamage (same_Some _ _ (sym form.1 ∙ is)) tt
TellsNoDamage-bound told place request (bounds.Insert table rows) course reply is form =
    subst TellsNoDamage (same_Some _ _ (sym form.3 ∙ is)) tt
TellsNoDamage-bound told place request (bounds.Select table query) course reply is form =
    subst TellsNoDamage (same_Some _ _ (sym form.4 ∙ is)) tt

-- nor, where blobs tell their bytes, does any form's
TellsNoDamage-form : (request : Request) (course : Course) (reply : Reply) → course.reply ≡ Some reply
    → Form true request course
    → TellsNoDamage reply
TellsNoDamage-form request course reply is (inl refused) =
    subst TellsNoDamage (same_Some _ _ (sym refused.reply ∙ is))
    (TellsNoDamage-body refused.refusal
    (plain-refusal (catalog refused.place) request.body refused.refusal refused.cause).1)
TellsNoDamage-form request course reply is (inr (inl done)) =
    TellsNoDamage-bound true done.place request done.bound course reply is done.form
TellsNoDamage-form request course reply is (inr (inr (inl starved))) =
    subst TellsNoDamage (same_Some _ _ (sym starved.reply ∙ is)) tt
TellsNoDamage-form request course reply is (inr (inr (inr (inl out)))) =
    subst TellsNoDamage (same_Some _ _ (sym out.reply ∙ is)) tt
TellsNoDamage-form request course reply is (inr (inr (inr (inr (inl faulted))))) =
    subst TellsNoDamage (same_Some _ _ (sym faulted.reply ∙ is)) tt
TellsNoDamage-form request course reply is (inr (inr (inr (inr (inr (inl damaged)))))) =
    absurd (false≢true (sym damaged.untold))
TellsNoDamage-form request course reply is (inr (inr (inr (inr (inr (inr left)))))) =
    absurd (none-some reply (sym left.reply ∙ is))

-- what holds of the replies of each session holds of all
All-tail : (P : Shown → Type 0) (b : Bool) (shown : Shown) (more : List Shown)
    → AllByRecursion P (cond b (shown ∷ more) more) → AllByRecursion P more
All-tail P true shown more all = all.1
All-tail P false shown more all = all

pub All-sessions : (P : ℕ → Shown → Type 0) (count : ℕ) (replies : List Shown)
    → AllByRecursion (λ shown. shown.session < count) replies
    → ((session : ℕ) → session < count → AllByRecursion (P session) (shown_to session replies))
    → AllByRecursion (λ shown. P shown.session shown) replies
All-sessions P count [] heard each = tt
All-sessions P count (shown ∷ more) heard each =
    let rest = shown_to shown.session more in
    let first : AllByRecursion (P shown.session) (shown ∷ rest) =
    subst (λ b. AllByRecursion (P shown.session) (cond b (shown ∷ rest) rest))
    (eq-eqb shown.session shown.session refl) (each shown.session heard.0) in (
      first.0,
      All-sessions P count more heard.1 (λ session there.
          All-tail (P session) (shown.session == session) shown (shown_to session more) (each session there)),
    )

-- what holds of the reply of each form
module _ (told : Bool) (P : Reply → Type 0)
    (holds : (request : Request) (course : Course) (reply : Reply) → course.reply ≡ Some reply
    → Form told request course → P reply) where
  -- it holds of the reply that is shown
  abbrev IsRight : Shown → Type 0
  IsRight shown = P shown.reply

  -- holds of the replies to statements with such forms
  Takes-each : (o : Option ℕ) (request : Request) (ms : List Move) (others : List Shown → Type 0)
      (replies : List Shown)
      → ((more : List Shown) → others more → AllByRecursion IsRight more)
      → Takes o (λ reply. Form told request (record { moves = ms; reply = reply })) others replies
      → AllByRecursion IsRight replies
  Takes-each None request ms others replies rest takes = rest replies takes.1
  Takes-each (Some line) request ms others [] rest takes = absurd takes
  Takes-each (Some line) request ms others (shown ∷ more) rest takes = (
    holds request (record { moves = ms; reply = Some shown.reply }) shown.reply refl takes.1,
    rest more takes.2,
  )

  Went-each : (mine : List Move) (requests : List Request) (replies : List Shown)
      → Went (Form told) mine requests replies
      → AllByRecursion IsRight replies
  Went-each mine [] replies went = subst (AllByRecursion IsRight) (sym went) tt
  Went-each mine (request ∷ requests) replies went =
      Takes-each request.shown request (for_line request.line mine) (Went (Form told) mine requests) replies
      (Went-each mine requests) went

  -- so it holds of those of a legal history
  IsLegal-each : (script : Script) (h : List Entry) (replies : List Shown) → IsLegal told script h replies
      → AllByRecursion IsRight replies
  IsLegal-each script h replies legal =
      All-sessions (λ session. IsRight) (length script.names) replies legal.heard (λ session there.
      Went-each (moves_by (Session session) h) (requests_by session (statements script))
      (shown_to session replies)
      (legal.sessions session there).answered)

-- no name that a legal reply gives has a line feed
pub IsLegal-plain : (told : Bool) (script : Script) (h : List Entry) (replies : List Shown)
    → IsLegal told script h replies → AllByRecursion (λ shown. IsPlain shown.reply) replies
IsLegal-plain told = IsLegal-each told IsPlain (IsPlain-form told)

-- where blobs tell their bytes, no legal reply tells of a damaged granule
pub IsLegal-undamaged : (script : Script) (h : List Entry) (replies : List Shown)
    → IsLegal true script h replies → AllByRecursion (λ shown. TellsNoDamage shown.reply) replies
IsLegal-undamaged = IsLegal-each true TellsNoDamage TellsNoDamage-form
