-- Runs of whole statements are legal.
use Rattle.std.proofs.Common.{◌≡◌, ℕ, ◌+◌, ◌<◌, ◌≤◌, ◌++◌, length, Bool, true, false, cond, List, [], ◌∷◌}
use Rattle.std.proofs.Common.{map}
use Rattle.std.proofs.Common.{zero, suc, Option, Some, sym, refl, ap, ◌∙◌, subst, inl, arith}
use Rattle.std.proofs.Common.{append-nil, append_assoc, length-append}
use Rattle.std.specs.Prelude.{◌==◌, take, filter, Contains}
use Rattle.std.specs.Option.{option_and_then, unwrap_or}
use Rattle.std.specs.List.{AllByRecursion, find}
use Rattle.std.proofs.lemmas.Bool.{eqb-true, cond_both}
use Rattle.std.proofs.lemmas.Option.{same_Some}
use Rattle.std.proofs.lemmas.List.{take-map}
use Rattle.std.proofs.lemmas.List.Elements.{filter-append}
use Rattle.pj_script.specs.declared.types.ScriptLine.{ScriptLine}
use Rattle.pj_script.specs.declared.types.Script.{Script}
use Rattle.pj_journal.specs.declared.entry.Actor.TheVariants.{Session, Worker}
use Rattle.pj_journal.specs.declared.entry.Entry.{Entry}
use Rattle.pj_journal.specs.History.{IsRegular}
use Rattle.pj_journal.specs.Moves.{Move, moves_from, is_by, moves_by, for_line, has_moved}
use Rattle.pj_legal.specs.declared.reply.Reply.{Reply}
use Rattle.pj_legal.specs.Statements.{Request, statement_of, statements, requests_by, Shown, shown_to}
use Rattle.pj_legal.specs.Forms.{Course, Form, entry_of, history_full}
use Rattle.pj_legal.specs.Shares.{SessionShare, WorkerShare, Went, Takes, NeverFall, Rise, IsTask, lines_of}
use Rattle.pj_legal.specs.Legal.{IsActor, IsSession, IsPlayed, end_of, belongs_to}
use Rattle.pj_legal.specs.Full.{TellsFull, KeepsLimit, next_line}
use Rattle.pj_legal.specs.Run.{Run, IsStep, course, shown_at, cut}
use Rattle.pj_legal.specs.Joining.{AreNotBy}
use Rattle.pj_legal.specs.Laws.{request_lines, AreNamed}
use Rattle.pj_legal.proofs.histories.MoveLemmas.{AreOn, AreUpTo, AreBehind, AreBy, lines, moved_by}
use Rattle.pj_legal.proofs.histories.MoveLemmas.{moves_from-append, entries-moves_from, filter-not_by}
use Rattle.pj_legal.proofs.histories.MoveLemmas.{filter-by}
use Rattle.pj_legal.proofs.histories.MoveLemmas.{for_line-middle, AreOff-up_to, AreOff-behind, AreUpTo-append}
use Rattle.pj_legal.proofs.histories.MoveLemmas.{AreBehind-append, NeverFall-append, NeverFall-filter}
use Rattle.pj_legal.proofs.FormLemmas.{AreOf, MovesAreOf-form}
use Rattle.pj_legal.proofs.histories.ListLemmas.{All-back, All-append, All-map}

-- ---- whole statements

-- each statement begins and ends on its line
abbrev pub AreWhole : List Request → Type 0
AreWhole requests = AllByRecursion (λ request. request.shown ≡ Some request.line) requests

-- each statement is of one of so many sessions
abbrev pub AreWithin : ℕ → List Request → Type 0
AreWithin count requests = AllByRecursion (λ request. request.session < count) requests

-- the line that ends the statement of a line
abbrev ends_at : Option Request → ℕ → ℕ
ends_at found line = unwrap_or (option_and_then (λ request. request.shown) found) line

end_of-step : (line : ℕ) (request : Request) (rest : Option Request) (b : Bool) → request.shown
    ≡ Some request.line
    → (b ≡ true → request.line ≡ line) → ends_at rest line ≡ line
    → ends_at (cond b (Some request) rest) line ≡ line
end_of-step line request rest true whole same none = ap (λ (o : Option ℕ). unwrap_or o line) whole ∙ same refl
end_of-step line request rest false whole same none = none

-- the line of a whole statement ends it
end_of-whole : (requests : List Request) (line : ℕ) → AreWhole requests → end_of requests line ≡ line
end_of-whole [] line whole = refl
end_of-whole (request ∷ requests) line whole =
    end_of-step line request (find (λ s. s.line == line) requests) (request.line == line) whole.0
    (eqb-true request.line line) (end_of-whole requests line whole.1)

cond-same : (b : Bool) (m n : ℕ) → m ≡ n → cond b m n ≡ n
cond-same true m n same = same
cond-same false m n same = refl

-- so each move belongs to the line of its entry
lines_run-whole : (requests : List Request) (place es : List Entry) → AreWhole requests
    → map (belongs_to requests) (moves_from place es) ≡ lines es
lines_run-whole requests place [] whole = refl
lines_run-whole requests place (e ∷ es) whole =
    let first = cond-same (has_moved e.actor e.line place) (end_of requests e.line) e.line
    (end_of-whole requests e.line whole) in
    let rest = lines_run-whole requests (place ++ e ∷ []) es whole in
    (λ i. first i ∷ rest i)

-- the lines are those of the lines that a predicate holds for
AllByRecursion-lines : (P : ℕ → Type 0) (es : List Entry) → AllByRecursion (λ e. P e.line) es
    → AllByRecursion P (lines es)
AllByRecursion-lines P [] all = tt
AllByRecursion-lines P (e ∷ es) all = (all.0, AllByRecursion-lines P es all.1)

-- ---- a statement's moves

AreOn-of : (request : Request) (es : List Entry) → AreOf request es → AreOn request.line es
AreOn-of request [] all = tt
AreOn-of request (e ∷ es) all = (ap (λ x. x.line) all.0, AreOn-of request es all.1)

-- the moves of a statement that ran are its own
AreOf-ran : (told : Bool) (limit : ℕ) (place : List Entry) (request : Request) (added : List Entry)
    (reply : Reply)
    → IsStep told limit place request added reply → AreOf request added
AreOf-ran told limit place request added reply ran =
    subst (AreOf request) (entries-moves_from place added)
    (MovesAreOf-form told request (course place added reply) ran.form)

-- those of a session's statement are by the session
AreBy-of : (request : Request) (session : ℕ) (es : List Entry) → (request.session == session) ≡ true
    → AreOf request es
    → AreBy (Session session) es
AreBy-of request session [] same all = tt
AreBy-of request session (e ∷ es) same all =
    (ap (λ x. is_by (Session session) x) all.0 ∙ same, AreBy-of request session es same all.1)

-- and those of another's are not
AreNotBy-of : (request : Request) (session : ℕ) (es : List Entry) → (request.session == session) ≡ false
    → AreOf request es → AreNotBy (Session session) es
AreNotBy-of request session [] other all = tt
AreNotBy-of request session (e ∷ es) other all =
    (ap (λ x. is_by (Session session) x) all.0 ∙ other, AreNotBy-of request session es other all.1)

-- nor are they a worker's
AreNotBy-worker : (request : Request) (worker : ℕ) (es : List Entry) → AreOf request es → AreNotBy
    (Worker worker) es
AreNotBy-worker request worker [] all = tt
AreNotBy-worker request worker (e ∷ es) all =
    (ap (λ x. is_by (Worker worker) x) all.0, AreNotBy-worker request worker es all.1)

-- the entries of a statement of a session are of one of so many sessions, or of a worker
IsActor-of : (count : ℕ) (request : Request) (es : List Entry) → request.session < count → AreOf request es
    → AllByRecursion (λ e. IsActor count e.actor) es
IsActor-of count request es within of =
    All-map (λ e. e ≡ entry_of request e.what) (λ e. IsActor count e.actor) es
    (λ e is. subst (λ (x : Entry). IsActor count x.actor) (sym is) within) of

IsSession-of : (request : Request) (es : List Entry) → AreOf request es → AllByRecursion
    (λ e. IsSession e.actor) es
IsSession-of request es of =
    All-map (λ e. e ≡ entry_of request e.what) (λ e. IsSession e.actor) es
    (λ e is. subst (λ (x : Entry). IsSession x.actor) (sym is) tt) of

-- ---- what a run adds

-- a move is for one of the statements
abbrev pub IsFor : List Request → Move → Type 0
IsFor requests move = Contains (request_lines requests) move.entry.line

-- a move for one of the statements is for one of more
IsFor-step : (request : Request) (requests : List Request) (b : Bool) (m : Move) → IsFor requests m
    → IsFor (cond b (request ∷ requests) requests) m
IsFor-step request requests true m (at, within, is) = (suc at, omega (arith, within), is)
IsFor-step request requests false m is = is

-- moves on the line of the first statement are for it
IsFor-first : (request : Request) (requests : List Request) (place es : List Entry) → AreOn request.line es
    → AllByRecursion (IsFor (request ∷ requests)) (moves_from place es)
IsFor-first request requests place [] on = tt
IsFor-first request requests place (e ∷ es) on =
    ((0, omega arith, sym on.0), IsFor-first request requests (place ++ e ∷ []) es on.1)

-- what a run adds to its place
pub record HasAdded (low : ℕ) (place : List Entry) (requests : List Request) (replies : List Shown)
    (h : List Entry)
    : Type 0 where
  pub new : List Entry
  pub grown : h ≡ place ++ new
  pub behind : AreBehind low new
  pub order : NeverFall low (lines new)
  pub rise : Rise low (map (λ shown. shown.line) replies)
  pub alone : AllByRecursion (λ entry. IsSession entry.actor) new
  pub workers : (worker : ℕ) → AreNotBy (Worker worker) new
  pub actors :
      (count : ℕ) → AreWithin count requests → AllByRecursion (λ entry. IsActor count entry.actor) new
  pub heard : (count : ℕ) → AreWithin count requests → AllByRecursion (λ shown. shown.session < count) replies
  pub owned :
      (session : ℕ)
      → AllByRecursion (IsFor (requests_by session requests))
      (filter (moved_by (Session session)) (moves_from place new))

-- a statement's moves, and those that were made behind it
owned-append : (request : Request) (requests : List Request) (place added new : List Entry) (session : ℕ)
    → AreOf request added
    → AllByRecursion (IsFor (requests_by session requests))
    (filter (moved_by (Session session)) (moves_from (place ++ added) new))
    → AllByRecursion (IsFor (requests_by session (request ∷ requests)))
    (filter (moved_by (Session session)) (moves_from place (added ++ new)))
owned-append request requests place added new session of rest =
    subst (AllByRecursion (IsFor (requests_by session (request ∷ requests)))) (sym split)
    (All-append (IsFor (requests_by session (request ∷ requests))) mine others first
    (All-map (IsFor (requests_by session requests)) (IsFor (requests_by session (request ∷ requests))) others
    (IsFor-step request (requests_by session requests) (request.session == session)) rest))
  where
    mine : List Move
    mine = filter (moved_by (Session session)) (moves_from place added)

    others : List Move
    others = filter (moved_by (Session session)) (moves_from (place ++ added) new)

    split : filter (moved_by (Session session)) (moves_from place (added ++ new)) ≡ mine ++ others
    split =
        ap (filter (moved_by (Session session))) (moves_from-append place added new)
        ∙ filter-append (moved_by (Session session)) (moves_from place added) (moves_from (place
        ++ added) new)

    on_line : AreOn request.line added
    on_line = AreOn-of request added of

    first : AllByRecursion (IsFor (requests_by session (request ∷ requests))) mine
    first =
        cond_both (request.session == session) (request ∷ requests_by session requests)
        (requests_by session requests)
        (λ (ss : List Request). AllByRecursion (IsFor ss) mine)
        (λ same. subst (AllByRecursion (IsFor (request ∷ requests_by session requests)))
        (sym (filter-by (Session session) place added (AreBy-of request session added same of)))
        (IsFor-first request (requests_by session requests) place added on_line))
        (λ other. subst (AllByRecursion (IsFor (requests_by session requests)))
        (sym (filter-not_by (Session session) place added (AreNotBy-of request session added other of))) tt)

-- the first statement of a run: its entries, and where its reply is shown
record FirstStep (told : Bool) (limit : ℕ) (place : List Entry) (request : Request) (requests : List Request)
    (shown : Shown)
    (more : List Shown) (h : List Entry) : Type 0 where
  added : List Entry
  ran : IsStep told limit place request added shown.reply
  others : Run told limit (place ++ added) requests more h
  of : AreOf request added
  on : AreOn request.line added
  at : shown.line ≡ request.line
  to : shown.session ≡ request.session

first_step : (told : Bool) (limit : ℕ) (place : List Entry) (request : Request) (requests : List Request)
    (shown : Shown) (more : List Shown) (h : List Entry)
    → Run told limit place (request ∷ requests) (shown ∷ more) h
    → FirstStep told limit place request requests shown more h
first_step told limit place request requests shown more h (is, (added, ran, others)) =
    let of : AreOf request added = AreOf-ran told limit place request added shown.reply ran in
    record {
      added = added;
      ran = ran;
      others = others;
      of = of;
      on = AreOn-of request added of;
      at = ap (λ (s : Shown). s.line) is;
      to = ap (λ (s : Shown). s.session) is;
    }

-- a run adds moves of its statements, line by line
pub HasAdded-run : (told : Bool) (limit low : ℕ) (place : List Entry) (requests : List Request)
    (replies : List Shown) (h : List Entry)
    → Rise low (request_lines requests) → Run told limit place requests replies h
    → HasAdded low place requests replies h
HasAdded-run told limit low place [] [] h rise run = record {
  new = [];
  grown = run ∙ sym (append-nil place);
  behind = tt;
  order = tt;
  rise = tt;
  alone = tt;
  workers = λ worker. tt;
  actors = λ count within. tt;
  heard = λ count within. tt;
  owned = λ session. tt;
}
HasAdded-run told limit low place [] (shown ∷ more) h rise run = absurd run
HasAdded-run told limit low place (request ∷ requests) [] h rise run = absurd run
HasAdded-run told limit low place (request ∷ requests) (shown ∷ more) h rise run =
    joined (HasAdded-run told limit request.line (place ++ step.added) requests more h rise.1 step.others)
  where
    step : FirstStep told limit place request requests shown more h
    step = first_step told limit place request requests shown more h run

    joined : HasAdded request.line (place ++ step.added) requests more h
        → HasAdded low place (request ∷ requests) (shown ∷ more) h
    joined rest = record {
      new = step.added ++ rest.new;
      grown = rest.grown ∙ append_assoc place step.added rest.new;
      behind = AreBehind-append low request.line step.added rest.new rise.0 step.on rest.behind;
      order = NeverFall-append low request.line step.added rest.new (omega
          (arith, rise.0)) step.on rest.order;
      rise = (
        subst (λ l. low < l) (sym step.at) rise.0,
        subst (λ l. Rise l (map (λ (s : Shown). s.line) more)) (sym step.at) rest.rise,
      );
      alone =
          All-append (λ (e : Entry). IsSession e.actor) step.added rest.new
          (IsSession-of request step.added step.of) rest.alone;
      workers =
          λ worker. All-append (λ (e : Entry). is_by (Worker worker) e ≡ false) step.added rest.new
          (AreNotBy-worker request worker step.added step.of) (rest.workers worker);
      actors =
          λ count within. All-append (λ (e : Entry). IsActor count e.actor) step.added rest.new
          (IsActor-of count request step.added within.0 step.of) (rest.actors count within.1);
      heard =
          λ count within. (subst (λ n. n < count) (sym step.to) within.0, rest.heard count within.1);
      owned =
          λ session. owned-append request requests place step.added rest.new session step.of
          (rest.owned session);
    }

-- ---- each statement of a run

-- a relation holds of each statement that a run of these is of, by its moves and its reply
abbrev pub Goes : Bool → ℕ → (Request → Course → Type 0) → List Entry → Type 0
Goes told limit so h =
    (place : List Entry) (request : Request) (added new : List Entry) (reply : Reply) → request.shown
    ≡ Some request.line
    → h ≡ (place ++ added) ++ new → AreUpTo request.line (place ++ added) → AreBehind request.line new
    → IsStep told limit place request added reply → so request (course place added reply)

Went-step : (so : Request → Course → Type 0) (mine : List Move) (request : Request)
    (requests : List Request) (shown : Shown)
    (replies : List Shown) (b c : Bool)
    → b ≡ c → request.shown ≡ Some request.line → shown.line ≡ request.line
    → (b ≡ true → so request (record { moves = for_line request.line mine; reply = Some shown.reply }))
    → Went so mine requests replies
    → Went so mine (cond b (request ∷ requests) requests) (cond c (shown ∷ replies) replies)
Went-step so mine request requests shown replies true true same whole at goes rest =
    subst (λ (o : Option ℕ). Takes o
    (λ reply. so request (record { moves = for_line request.line mine; reply = reply }))
    (Went so mine requests) (shown ∷ replies)) (sym whole) (at, goes refl, rest)
Went-step so mine request requests shown replies true false same whole at goes rest = absurd (cc)
Went-step so mine request requests shown replies false true same whole at goes rest = absurd (cc)
Went-step so mine request requests shown replies false false same whole at goes rest = rest

-- then it holds of those of each session
pub Went-run : (told : Bool) (limit : ℕ) (so : Request → Course → Type 0) (low : ℕ) (place : List Entry)
    (requests : List Request)
    (replies : List Shown) (h : List Entry) (session : ℕ)
    → Goes told limit so h → AreWhole requests → AreUpTo low place → Rise low (request_lines requests)
    → Run told limit place requests replies h
    → Went so (moves_by (Session session) h) (requests_by session requests) (shown_to session replies)
Went-run told limit so low place [] [] h session goes whole below rise run = refl
Went-run told limit so low place [] (shown ∷ more) h session goes whole below rise run = absurd run
Went-run told limit so low place (request ∷ requests) [] h session goes whole below rise run = absurd run
Went-run told limit so low place (request ∷ requests) (shown ∷ more) h session goes whole below rise run =
    Went-step so (moves_by (Session session) h) request (requests_by session requests) shown
    (shown_to session more)
    (request.session == session) (shown.session == session)
    (ap (λ n. n == session) (sym step.to)) whole.0 step.at
    (λ same. subst (λ (ms : List Move). so request (record { moves = ms; reply = Some shown.reply }))
    (sym (for_line-middle request.line (Session session) place step.added rest.new h
    (AreOff-up_to low request.line place rise.0 below) step.on
    (AreBy-of request session step.added same step.of)
    (AreOff-behind request.line rest.new rest.behind) rest.grown))
    (goes place request step.added rest.new shown.reply whole.0 rest.grown upto rest.behind step.ran))
    (Went-run told limit so request.line (place ++ step.added) requests more h session goes whole.1 upto
    rise.1 step.others)
  where
    step : FirstStep told limit place request requests shown more h
    step = first_step told limit place request requests shown more h run

    upto : AreUpTo request.line (place ++ step.added)
    upto = AreUpTo-append low request.line place step.added (omega (arith, rise.0)) below step.on

    rest : HasAdded request.line (place ++ step.added) requests more h
    rest = HasAdded-run told limit request.line (place ++ step.added) requests more h rise.1 step.others

-- each has its form
Goes-form : (told : Bool) (limit : ℕ) (h : List Entry) → Goes told limit (Form told) h
Goes-form told limit h place request added new reply whole grown upto behind ran = ran.form

-- the line of a whole statement's next move
next_line-whole : (request : Request) (ms : List Move) → request.shown ≡ Some request.line
    → next_line request ms ≡ request.line
next_line-whole request [] whole = refl
next_line-whole request (m ∷ ms) whole = ap (λ (o : Option ℕ). unwrap_or o request.line) whole

nothing-behind : (line : ℕ) (new : List Entry) → AreBehind line new → AllByRecursion (λ l. l ≤ line)
    (lines new)
    → length new ≡ 0
nothing-behind line [] behind upto = refl
nothing-behind line (e ∷ es) behind upto = absurd (omega (arith, behind.0, upto.0))

lines-append : (xs ys : List Entry) → lines (xs ++ ys) ≡ lines xs ++ lines ys
lines-append [] ys = refl
lines-append (x ∷ xs) ys = ap (λ (ls : List ℕ). x.line ∷ ls) (lines-append xs ys)

none-left : (new : List Entry) → length new ≡ 0 → new ≡ []
none-left [] none = refl
none-left (e ∷ es) none = absurd (omega (arith, none))

-- and tells whether the journal was full
Goes-full : (told : Bool) (limit : ℕ) (all : List Request) (h : List Entry) → AreWhole all → length h ≤ limit
    → Goes told limit (TellsFull limit all h) h
Goes-full told limit all h are within place request added new reply whole grown upto behind ran = record {
  only = λ fills.
      let full : length place + length added ≡ limit = ran.full (same_Some reply history_full fills) in
      let none : length new ≡ 0 = omega (arith, sizes, full, within) in
      let same : h ≡ place ++ added =
      grown ∙ ap (λ (es : List Entry). (place ++ added) ++ es) (none-left new none)
      ∙ append-nil (place ++ added) in
      let ended : AllByRecursion (λ l. l ≤ request.line) (lines (place ++ added)) =
      AllByRecursion-lines (λ l. l ≤ request.line) (place ++ added) upto in
      record {
        full = sizes ∙ omega (arith, none, full);
        last =
            rw (next_line-whole request (moves_from place added) whole)
            (subst (AllByRecursion (λ l. l ≤ request.line))
            (sym (lines_run-whole all [] h are ∙ ap lines same)) ended);
      };
  always = λ was next.
      let line = next_line-whole request (moves_from place added) whole in
      let last : AllByRecursion (λ l. l ≤ request.line) (lines h) =
      subst (λ (l : ℕ). AllByRecursion (λ o. o ≤ l) (lines h)) line
      (subst (AllByRecursion (λ o. o ≤ next_line request (moves_from place added)))
      (lines_run-whole all [] h are) was.last) in
      let split : AllByRecursion (λ l. l ≤ request.line) (lines (place ++ added) ++ lines new) =
      subst (AllByRecursion (λ l. l ≤ request.line)) (ap lines grown ∙ lines-append (place
      ++ added) new) last in
      let none : length new ≡ 0 =
      nothing-behind request.line new behind
      (All-back (λ l. l ≤ request.line) (lines (place ++ added)) (lines new) split) in
      let full : length place + length added ≡ limit = omega (arith, sizes, none, was.full) in
      inl (ap Some (ran.always full next));
}
  where
    sizes : length h ≡ (length place + length added) + length new
    sizes =
        ap length grown ∙ length-append (place ++ added) new
        ∙ ap (λ n. n + length new) (length-append place added)

-- ---- a run of a script

statements-whole : (ls : List ScriptLine) → AreWhole (map statement_of ls)
statements-whole [] = tt
statements-whole (l ∷ ls) = (refl, statements-whole ls)

statements-within : (count : ℕ) (ls : List ScriptLine) → AllByRecursion (λ line. line.name < count) ls
    → AreWithin count (map statement_of ls)
statements-within count [] named = tt
statements-within count (l ∷ ls) named = (named.0, statements-within count ls named.1)

-- a run of a script's statements from nothing on
pub IsPlayed-run : (told : Bool) (limit : ℕ) (script : Script) (replies : List Shown) (h : List Entry)
    → Rise 0 (request_lines (statements script)) → AreNamed script
    → Run told limit [] (statements script) replies h → IsRegular h → length h ≤ limit
    → IsPlayed told script h replies × KeepsLimit limit script h replies
IsPlayed-run told limit script replies h rise named run regular within = (played, keeps)
  where
    requests : List Request
    requests = statements script

    whole : AreWhole requests
    whole = statements-whole script.lines

    inside : AreWithin (length script.names) requests
    inside = statements-within (length script.names) script.lines named

    added : HasAdded 0 [] requests replies h
    added = HasAdded-run told limit 0 [] requests replies h rise run

    same : added.new ≡ h
    same = sym added.grown

    never : NeverFall 0 (lines h)
    never = subst (λ (es : List Entry). NeverFall 0 (lines es)) same added.order

    share : (session : ℕ)
        → SessionShare told session (requests_by session requests) h (shown_to session replies)
    share session = record {
      owned =
          subst (λ (es : List Entry). AllByRecursion (IsFor (requests_by session requests))
          (filter (moved_by (Session session)) (moves_from [] es))) same (added.owned session);
      order = NeverFall-filter 0 (Session session) [] h never;
      answered =
          Went-run told limit (Form told) 0 [] requests replies h session (Goes-form told limit h) whole tt
          rise run;
    }

    no_moves : (worker : ℕ) → moves_by (Worker worker) h ≡ []
    no_moves worker =
        filter-not_by (Worker worker) [] h
        (subst (AreNotBy (Worker worker)) same (added.workers worker))

    work : (worker : ℕ) → WorkerShare worker h
    work worker = record {
      tasks = subst (AllByRecursion (λ (m : Move). IsTask m.place m.entry.what)) (sym (no_moves worker)) tt;
      order = subst (λ (ms : List Move). Rise 0 (lines_of ms)) (sym (no_moves worker)) tt;
    }

    played : IsPlayed told script h replies
    played = record {
      legal = record {
        regular = regular;
        actors =
            subst (AllByRecursion (λ (e : Entry). IsActor (length script.names) e.actor)) same
            (added.actors (length script.names) inside);
        heard = added.heard (length script.names) inside;
        sessions = λ session there. share session;
        workers = work;
      };
      alone = subst (AllByRecursion (λ (e : Entry). IsSession e.actor)) same added.alone;
      order = subst (NeverFall 0) (sym (lines_run-whole requests [] h whole)) never;
      shown = added.rise;
    }

    keeps : KeepsLimit limit script h replies
    keeps = record {
      within = within;
      tells = λ session there.
          Went-run told limit (TellsFull limit requests h) 0 [] requests replies h session
          (Goes-full told limit requests h whole within) whole tt rise run;
    }

-- the lines of the first statements rise too
Rise-take : (n low : ℕ) (requests : List Request) → Rise low (request_lines requests) → Rise low
    (request_lines (take n requests))
Rise-take zero low requests rise = tt
Rise-take (suc n) low [] rise = tt
Rise-take (suc n) low (request ∷ requests) rise = (rise.0, Rise-take n request.line requests rise.1)

AreNamed-take : (n count : ℕ) (ls : List ScriptLine) → AllByRecursion (λ line. line.name < count) ls
    → AllByRecursion (λ line. line.name < count) (take n ls)
AreNamed-take zero count ls named = tt
AreNamed-take (suc n) count [] named = tt
AreNamed-take (suc n) count (l ∷ ls) named = (named.0, AreNamed-take n count ls named.1)

-- the statements of the first lines
statements-cut : (n : ℕ) (script : Script) → statements (cut n script) ≡ take n (statements script)
statements-cut n script = sym (take-map statement_of n script.lines)

-- a run of a script's first statements
pub IsPlayed-cut : (told : Bool) (limit n : ℕ) (script : Script) (replies : List Shown) (h : List Entry)
    → Rise 0 (request_lines (statements script)) → AreNamed script
    → Run told limit [] (take n (statements script)) replies h → IsRegular h → length h ≤ limit
    → IsPlayed told (cut n script) h replies × KeepsLimit limit (cut n script) h replies
IsPlayed-cut told limit n script replies h rise named run regular within =
    let same : take n (statements script) ≡ statements (cut n script) = sym (statements-cut n script) in
    IsPlayed-run told limit (cut n script) replies h
    (subst (λ (ss : List Request). Rise 0 (request_lines ss)) same (Rise-take n 0 (statements script) rise))
    (AreNamed-take n (length script.names) script.lines named)
    (subst (λ (ss : List Request). Run told limit [] ss replies h) same run)
    regular within

-- one more statement
pub Run-push : (told : Bool) (limit : ℕ) (place : List Entry) (requests : List Request) (replies : List Shown)
    (mid : List Entry)
    (request : Request) (added : List Entry) (reply : Reply)
    → Run told limit place requests replies mid → IsStep told limit mid request added reply
    → Run told limit place (requests ++ request ∷ []) (replies ++ shown_at request reply ∷ []) (mid ++ added)
Run-push told limit place [] [] mid request added reply run ran =
    let step = subst (λ from. IsStep told limit from request added reply) run ran in
    (refl, (added, step, ap (λ es. es ++ added) run))
Run-push told limit place [] (r ∷ more) mid request added reply run ran = absurd run
Run-push told limit place (s ∷ requests) [] mid request added reply run ran = absurd run
Run-push told limit place (s ∷ requests) (r ∷ more) mid request added reply run ran = (
  run.0,
  (
    run.1.0,
    run.1.1,
    Run-push told limit (place ++ run.1.0) requests more mid request added reply
        run.1.2 ran,
  ),
)
