-- The text of legal replies fixes them.
use Rattle.std.proofs.Common.{◌≡◌, ℕ, ◌+◌, ◌<◌, ◌≤◌, ◌^◌, ◌++◌, length, zero, suc, Bool, true, false, cond}
use Rattle.std.proofs.Common.{List, [], ◌∷◌, map, Option, Some, None, sym, refl, ap, ◌∙◌, subst, inl, inr}
use Rattle.std.proofs.Common.{arith, length-append}
use Rattle.std.specs.Prelude.{◌==◌, ◌⊎◌, slice_get, Contains}
use Rattle.std.specs.List.{AllByRecursion, flat_map}
use Rattle.std.specs.Fmt.{decimal}
use Rattle.std.proofs.lemmas.Bool.{cond_both}
use Rattle.std.proofs.lemmas.Option.{none-some, same_Some, slice_get-get_or}
use Rattle.pj_expr.specs.declared.query.Query.{Query}
use Rattle.pj_answer.specs.Answers.{item_kind}
use Rattle.pj_value.specs.Rows.{KindedRows}
use Rattle.pj_script.specs.declared.types.ScriptMode.{ScriptMode}
use Rattle.pj_script.specs.declared.types.ScriptLine.{ScriptLine}
use Rattle.pj_script.specs.declared.types.Script.{Script}
use Rattle.pj_script.specs.Lines.{IsName, AreLines, pieces, onto_first}
use Rattle.pj_journal.specs.declared.entry.Actor.TheVariants.{Session}
use Rattle.pj_journal.specs.declared.entry.What.TheVariants.{Looked}
use Rattle.pj_journal.specs.declared.entry.Entry.{Entry}
use Rattle.pj_journal.specs.History.{catalog, table_rows}
use Rattle.pj_journal.specs.Moves.{Move, moves_by, for_line}
use Rattle.pj_bind.specs.declared.types.Bound.{Bound}
use Rattle.pj_bind.specs.declared.types.Bound.TheVariants as bounds
use Rattle.pj_legal.specs.declared.reply.Reply.{Reply}
use Rattle.pj_legal.specs.declared.reply.Reply.TheVariants as replies
use Rattle.pj_legal.specs.Bodies.{BodyBinds}
use Rattle.pj_legal.specs.Statements.{Request, whole, statement_of, statements, requests_by, Shown, shown_to}
use Rattle.pj_legal.specs.Forms.{Course, BoundForm, Form, move_of}
use Rattle.pj_legal.specs.Shares.{Takes, Went}
use Rattle.pj_legal.specs.Legal.{IsLegal}
use Rattle.pj_legal.specs.Texts.{name_at, announced, following, reply_text, replies_text, as_line}
use Rattle.pj_legal.specs.Laws.{IsPlain}
use Rattle.pj_legal.specs.FixedReplies.{IsClean, HaveOneShape, FitsReply, TextFixesReplies}
use Rattle.pj_legal.proofs.BodyLaws.{BodyBinds-one, one_meaning}
use Rattle.pj_legal.proofs.LegalNames.{slice_get_push}
use Rattle.pj_legal.proofs.histories.ListLemmas.{All-append}
use Rattle.pj_legal.proofs.plain.PlainReplies.{All-sessions, IsLegal-plain}
use Rattle.pj_legal.proofs.texts.TextLaws.{reply_text-same}
use Rattle.pj_legal.proofs.texts.ReadReplies.{reply_text-read}

-- ---- a script's names and lines

-- no two of the names are one
abbrev Differ : List (List ℕ) → Type 0
Differ names =
    (i j : ℕ) (name : List ℕ) → slice_get names i ≡ Some name → slice_get names j ≡ Some name → i ≡ j

-- names of sessions, no two of which are one
abbrev AreNames : List (List ℕ) → Type 0
AreNames names = AllByRecursion IsName names × Differ names

Contains-get : (names : List (List ℕ)) (i : ℕ) (name : List ℕ) → slice_get names i ≡ Some name
    → Contains names name
Contains-get [] i name here = absurd (none-some name here)
Contains-get (n ∷ names) zero name here = (0, omega arith, same_Some n name here)
Contains-get (n ∷ names) (suc i) name here =
    let (k, within, is) = Contains-get names i name here in (suc k, omega (arith, within), is)

Differ-push : (names : List (List ℕ)) (name : List ℕ) → Differ names → (Contains names name → ⊥)
    → Differ (names ++ name ∷ [])
Differ-push names name differ new i j n first other =
    by (slice_get_push names name i n first) (slice_get_push names name j n other)
  where
    Is : ℕ → Type 0
    Is k = (slice_get names k ≡ Some n) ⊎ ((k ≡ length names) × (name ≡ n))

    by : Is i → Is j → i ≡ j
    by (inl old) (inl earlier) = differ i j n old earlier
    by (inl old) (inr last) = absurd (new (subst (Contains names) (sym last.1) (Contains-get names i n old)))
    by (inr last) (inl old) = absurd (new (subst (Contains names) (sym last.1) (Contains-get names j n old)))
    by (inr last) (inr end) = last.0 ∙ sym end.0

AreNames-lines : (mode : ScriptMode) (at : ℕ) (before : List (List ℕ)) (ps : List (List ℕ))
    (ls : List ScriptLine) (after : List (List ℕ)) → AreLines mode at before ps ls after → AreNames before
    → AreNames after
AreNames-lines mode at before [] ls after are names = subst AreNames (sym are.1) names
AreNames-lines mode at before (p ∷ ps) ls after (inl skipped) names =
    AreNames-lines mode (at + 1) before ps ls after skipped.1 names
AreNames-lines mode at before (p ∷ ps) ls after (inr (line, others, now, spells, is, more)) names =
    AreNames-lines mode (at + 1) now ps others after more (elim spells.numbered [
      | inl known ↦ subst AreNames (sym known.1) names
      | inr new ↦
          subst AreNames (sym new.2) (
            All-append IsName before (spells.name ∷ []) names.0 (spells.spelled.named, tt),
            Differ-push before spells.name names.1 new.0,
          )
    ])

-- the lines of a script rise, and are no more than its pieces
abbrev AreBetween : ℕ → ℕ → List ScriptLine → Type 0
AreBetween low high [] = Unit {0}
AreBetween low high (l ∷ ls) = (low < l.line) × (l.line < high) × AreBetween l.line high ls

AreBetween-weaken : (low next high : ℕ) (ls : List ScriptLine) → low ≤ next → AreBetween next high ls
    → AreBetween low high ls
AreBetween-weaken low next high [] le all = tt
AreBetween-weaken low next high (l ∷ ls) le all = (omega (arith, all.0), all.1, all.2)

AreBetween-lines : (mode : ScriptMode) (low at : ℕ) (before : List (List ℕ)) (ps : List (List ℕ))
    (ls : List ScriptLine) (after : List (List ℕ)) → low < at → AreLines mode at before ps ls after
    → AreBetween low (at + length ps) ls
AreBetween-lines mode low at before [] ls after lt are =
    subst (AreBetween low (at + 0)) (sym are.0) tt
AreBetween-lines mode low at before (p ∷ ps) ls after lt (inl skipped) =
    let same : (at + 1) + length ps ≡ at + length (p ∷ ps) = omega arith in
    subst (λ high. AreBetween low high ls) same
    (AreBetween-lines mode low (at + 1) before ps ls after (omega arith) skipped.1)
AreBetween-lines mode low at before (p ∷ ps) ls after lt (inr (line, others, now, spells, is, more)) =
    let same : (at + 1) + length ps ≡ at + length (p ∷ ps) = omega arith in
    let here : line.line ≡ at = spells.counted in
    subst (AreBetween low (at + length (p ∷ ps))) (sym is) (
      omega (arith, here, lt),
      omega (arith, here),
      subst (λ high. AreBetween line.line high others) same
          (AreBetween-lines mode line.line (at + 1) now ps others after (omega (arith, here)) more),
    )

length-onto : (b : ℕ) (ps : List (List ℕ)) → length (onto_first b ps) ≤ length ps + 1
length-onto b [] = omega arith
length-onto b (p ∷ ps) = omega arith

length-pieces : (bytes : List ℕ) → length (pieces bytes) ≤ length bytes
length-pieces [] = omega arith
length-pieces (b ∷ bs) =
    cond_both (b == 10) ([] ∷ pieces bs) (onto_first b (pieces bs)) (λ ps. length ps ≤ length (b ∷ bs))
    (λ feed. let rest = length-pieces bs in omega arith)
    (λ other. length-rest bs (pieces bs) (length-pieces bs))
  where
    length-rest : (xs : List ℕ) (ps : List (List ℕ)) → length ps ≤ length xs
        → length (onto_first b ps) ≤ length (b ∷ xs)
    length-rest xs ps le = omega (arith, length-onto b ps, le)

-- ---- the statement that a reply is of

-- the element is one of the list
abbrev pub In : {X : Type 0} → X → List X → Type 0
In x [] = ⊥
In x (y ∷ ys) = (x ≡ y) ⊎ In x ys

-- statements that are whole, on rising lines below this one
abbrev AreInOrder : ℕ → ℕ → List Request → Type 0
AreInOrder low high [] = Unit {0}
AreInOrder low high (request ∷ requests) =
    (low < request.line) × (request.line < high) × (request.shown
    ≡ Some request.line) × AreInOrder request.line high requests

AreInOrder-weaken : (low next high : ℕ) (requests : List Request) → low ≤ next → AreInOrder next high requests
    → AreInOrder low high requests
AreInOrder-weaken low next high [] le all = tt
AreInOrder-weaken low next high (s ∷ ss) le all = (omega (arith, all.0), all.1, all.2, all.3)

AreInOrder-statements : (low high : ℕ) (ls : List ScriptLine) → AreBetween low high ls
    → AreInOrder low high (map statement_of ls)
AreInOrder-statements low high [] all = tt
AreInOrder-statements low high (l ∷ ls) all =
    (all.0, all.1, refl, AreInOrder-statements l.line high ls all.2)

AreInOrder-step : (low high : ℕ) (b : Bool) (request : Request) (requests : List Request) → low < request.line
    → request.line < high → request.shown ≡ Some request.line → AreInOrder request.line high requests
    → AreInOrder low high (cond b (request ∷ requests) requests)
AreInOrder-step low high true request requests lt within whole rest = (lt, within, whole, rest)
AreInOrder-step low high false request requests lt within whole rest =
    AreInOrder-weaken low request.line high requests (omega (arith, lt)) rest

AreInOrder-requests_by : (low high session : ℕ) (requests : List Request) → AreInOrder low high requests
    → AreInOrder low high (requests_by session requests)
AreInOrder-requests_by low high session [] all = tt
AreInOrder-requests_by low high session (request ∷ requests) all =
    AreInOrder-step low high (request.session == session) request
    (requests_by session requests) all.0 all.1 all.2
    (AreInOrder-requests_by request.line high session requests all.3)

-- a statement of the list: its line, and that it is whole
In-facts : (low high : ℕ) (x : Request) (requests : List Request) → AreInOrder low high requests
    → In x requests
    → (low < x.line) × (x.line < high) × (x.shown ≡ Some x.line)
In-facts low high x [] all is = absurd is
In-facts low high x (s ∷ ss) all (inl same) =
    subst (λ (y : Request). (low < y.line) × (y.line < high) × (y.shown ≡ Some y.line)) (sym same)
    (all.0, all.1, all.2)
In-facts low high x (s ∷ ss) all (inr later) =
    let facts = In-facts s.line high x ss all.3 later in
    (omega (arith, all.0, facts.0), facts.1, facts.2)

-- two of one line are one
In-one : (low high : ℕ) (x y : Request) (requests : List Request) → AreInOrder low high requests
    → In x requests
    → In y requests → x.line ≡ y.line → x ≡ y
In-one low high x y [] all first other same = absurd first
In-one low high x y (s ∷ ss) all (inl a) (inl b) same = a ∙ sym b
In-one low high x y (s ∷ ss) all (inl a) (inr b) same =
    let facts = In-facts s.line high y ss all.3 b in
    let line : x.line ≡ s.line = ap (λ (z : Request). z.line) a in
    absurd (omega (arith, facts.0, line, same))
In-one low high x y (s ∷ ss) all (inr a) (inl b) same =
    let facts = In-facts s.line high x ss all.3 a in
    let line : y.line ≡ s.line = ap (λ (z : Request). z.line) b in
    absurd (omega (arith, facts.0, line, same))
In-one low high x y (s ∷ ss) all (inr a) (inr b) same = In-one s.line high x y ss all.3 a b same

-- the statement of a reply, with its form
pub record IsAsked (told : Bool) (mine : List Move) (requests : List Request) (shown : Shown) : Type 0 where
  pub request : Request
  pub is : In request requests
  pub at : request.shown ≡ Some shown.line
  pub form : Form told request (record { moves = for_line request.line mine; reply = Some shown.reply })

IsAsked-later : (told : Bool) (mine : List Move) (s : Request) (requests : List Request) (shown : Shown)
    → IsAsked told mine requests shown
    → IsAsked told mine (s ∷ requests) shown
IsAsked-later told mine s requests shown asked =
    record { request = asked.request; is = inr asked.is; at = asked.at; form = asked.form }

AllAsked-later : (told : Bool) (mine : List Move) (s : Request) (requests : List Request) (rs : List Shown)
    → AllByRecursion (IsAsked told mine requests) rs → AllByRecursion (IsAsked told mine (s ∷ requests)) rs
AllAsked-later told mine s requests [] all = tt
AllAsked-later told mine s requests (r ∷ rs) all =
    (IsAsked-later told mine s requests r all.0, AllAsked-later told mine s requests rs all.1)

Takes-asked : (told : Bool) (o : Option ℕ) (mine : List Move) (request : Request) (requests : List Request)
    (rs : List Shown)
    → request.shown ≡ o
    → ((more : List Shown) → Went (Form told) mine requests more
    → AllByRecursion (IsAsked told mine requests) more)
    → Takes o (λ reply. Form told request (record { moves = for_line request.line mine; reply = reply }))
    (Went (Form told) mine requests) rs
    → AllByRecursion (IsAsked told mine (request ∷ requests)) rs
Takes-asked told None mine request requests rs is rest takes =
    AllAsked-later told mine request requests rs (rest rs takes.1)
Takes-asked told (Some line) mine request requests [] is rest takes = absurd takes
Takes-asked told (Some line) mine request requests (r ∷ rs) is rest takes = (
  record { request = request; is = inl refl; at = is ∙ ap Some (sym takes.0); form = takes.1 },
  AllAsked-later told mine request requests rs (rest rs takes.2),
)

Went-asked : (told : Bool) (mine : List Move) (requests : List Request) (rs : List Shown)
    → Went (Form told) mine requests rs → AllByRecursion (IsAsked told mine requests) rs
Went-asked told mine [] rs went = subst (AllByRecursion (IsAsked told mine [])) (sym went) tt
Went-asked told mine (request ∷ requests) rs went =
    Takes-asked told request.shown mine request requests rs refl (Went-asked told mine requests) went

-- ---- the kinds of a reply's columns

-- rows answer the query of a SELECT that looked, and have the kinds of its items
pub record AreOfSelect (request : Request) (ms : List Move) (out : KindedRows) : Type 0 where
  pub place : List Entry
  pub table : ℕ
  pub query : Query
  pub binds : BodyBinds (catalog place) request.body (bounds.Select table query)
  pub moves : ms ≡ move_of request place (Looked table) ∷ []
  pub kinds : out.kinds ≡ map (item_kind (table_rows place table).kinds) query.items

of_bound : (told : Bool) (request : Request) (place : List Entry) (bound : Bound)
    (went : Course) (out : KindedRows)
    → went.reply ≡ Some (replies.Rows out) → BodyBinds (catalog place) request.body bound
    → BoundForm told place request bound went → AreOfSelect request went.moves out
of_bound told request place (bounds.Create table) went out is binds form =
    let same : Some replies.Done ≡ Some (replies.Rows out) = sym form.1 ∙ is in
    absurd (done_rows out (same_Some _ _ same))
  where
    done_rows : (out : KindedRows) → replies.Done ≡ replies.Rows out → ⊥
    done_rows out same = cc
of_bound told request place (bounds.Insert table rows) went out is binds form =
    let same : Some replies.Done ≡ Some (replies.Rows out) = sym form.3 ∙ is in
    absurd (done_rows out (same_Some _ _ same))
  where
    done_rows : (out : KindedRows) → replies.Done ≡ replies.Rows out → ⊥
    done_rows out same = cc
of_bound told request place (bounds.Select table query) went out is binds form =
    let (answer, right, kinds, moves, reply) = form in
    let same : answer ≡ out = rows_are answer out (same_Some _ _ (sym reply ∙ is)) in
    record {
      place = place;
      table = table;
      query = query;
      binds = binds;
      moves = moves;
      kinds = ap (λ (o : KindedRows). o.kinds) (sym same) ∙ kinds;
    }
  where
    rows_are : (a b : KindedRows) → replies.Rows a ≡ replies.Rows b → a ≡ b
    rows_are a b same = cc

refused_rows : (refusal : _) (out : KindedRows) → replies.Refused refusal ≡ replies.Rows out → ⊥
refused_rows refusal out same = cc

of_form : (told : Bool) (request : Request) (went : Course) (out : KindedRows)
    → went.reply ≡ Some (replies.Rows out) → Form told request went → AreOfSelect request went.moves out
of_form told request went out is (inl refused) =
    absurd (refused_rows refused.refusal out (same_Some _ _ (sym refused.reply ∙ is)))
of_form told request went out is (inr (inl done)) =
    of_bound told request done.place done.bound went out is done.binds done.form
of_form told request went out is (inr (inr (inl starved))) =
    absurd (refused_rows _ out (same_Some _ _ (sym starved.reply ∙ is)))
of_form told request went out is (inr (inr (inr (inl shut)))) =
    absurd (refused_rows _ out (same_Some _ _ (sym shut.reply ∙ is)))
of_form told request went out is (inr (inr (inr (inr (inl faulted))))) =
    absurd (refused_rows _ out (same_Some _ _ (sym faulted.reply ∙ is)))
of_form told request went out is (inr (inr (inr (inr (inr (inl damaged)))))) =
    absurd (refused_rows _ out (same_Some _ _ (sym damaged.reply ∙ is)))
of_form told request went out is (inr (inr (inr (inr (inr (inr left)))))) =
    absurd (none-some (replies.Rows out) (sym left.reply ∙ is))

-- the place of the first of some moves
abbrev first_place : List Move → List Entry
first_place [] = []
first_place (m ∷ ms) = m.place

select_are : (t u : ℕ) (p q : Query) → bounds.Select t p ≡ bounds.Select u q → (t ≡ u) × (p ≡ q)
select_are t u p q same = (cc, cc)

-- two rows that one SELECT gives have the same kinds
kinds_are : (request : Request) (ms : List Move) (out other : KindedRows) → AreOfSelect request ms out
    → AreOfSelect request ms other → out.kinds ≡ other.kinds
kinds_are request ms out other a b =
    let places : a.place ≡ b.place = ap first_place (sym a.moves ∙ b.moves) in
    let bound : bounds.Select a.table a.query ≡ bounds.Select b.table b.query =
    BodyBinds-one one_meaning request.body (catalog b.place) (bounds.Select a.table a.query)
    (bounds.Select b.table b.query)
    (subst (λ (es : List Entry). BodyBinds (catalog es) request.body (bounds.Select a.table a.query)) places
    a.binds) b.binds in
    let (tables, queries) = select_are a.table b.table a.query b.query bound in
    a.kinds
    ∙ (λ i. map (item_kind (table_rows (places i) (tables i)).kinds) (queries i).items)
    ∙ sym b.kinds

-- two replies to one statement have one shape
shapes_are : (told : Bool) (request : Request) (ms : List Move) (r s : Reply)
    → Form told request (record { moves = ms; reply = Some r })
    → Form told request (record { moves = ms; reply = Some s })
    → HaveOneShape r s
shapes_are told request ms (replies.Rows out) (replies.Rows other) a b =
    kinds_are request ms out other
    (of_form told request (record { moves = ms; reply = Some (replies.Rows out) }) out refl a)
    (of_form told request (record { moves = ms; reply = Some (replies.Rows other) }) other refl b)
shapes_are told request ms replies.Done s a b = tt
shapes_are told request ms (replies.Refused refusal) s a b = tt
shapes_are told request ms (replies.Rows out) replies.Done a b = tt
shapes_are told request ms (replies.Rows out) (replies.Refused refusal) a b = tt

-- ---- all of it

clean_from : (r : Reply) → IsPlain r → FitsReply r → IsClean r
clean_from replies.Done plain fits = tt
clean_from (replies.Rows out) plain fits = fits
clean_from (replies.Refused refusal) plain fits = (plain, fits)

-- what is known of each reply of a legal list
pub record IsKnown (told : Bool) (script : Script) (h : List Entry) (shown : Shown) : Type 0 where
  pub heard : shown.session < length script.names
  pub asked :
      IsAsked told (moves_by (Session shown.session) h) (requests_by shown.session (statements script)) shown
  pub clean : IsClean shown.reply

AllKnown : (told : Bool) (script : Script) (h : List Entry) (rs : List Shown)
    → AllByRecursion (λ shown. shown.session < length script.names) rs
    → AllByRecursion (λ shown. IsAsked told (moves_by (Session shown.session) h)
    (requests_by shown.session (statements script)) shown) rs
    → AllByRecursion (λ shown. IsPlain shown.reply) rs → AllByRecursion (λ shown. FitsReply shown.reply) rs
    → AllByRecursion (IsKnown told script h) rs
AllKnown told script h [] heard asked plain fits = tt
AllKnown told script h (r ∷ rs) heard asked plain fits = (
  record { heard = heard.0; asked = asked.0; clean = clean_from r.reply plain.0 fits.0 },
  AllKnown told script h rs heard.1 asked.1 plain.1 fits.1,
)

known_from : (told : Bool) (script : Script) (h : List Entry) (rs : List Shown) → IsLegal told script h rs
    → AllByRecursion (λ shown. FitsReply shown.reply) rs → AllByRecursion (IsKnown told script h) rs
known_from told script h rs legal fits =
    AllKnown told script h rs legal.heard
    (All-sessions
    (λ session. IsAsked told (moves_by (Session session) h) (requests_by session (statements script)))
    (length script.names) rs legal.heard
    (λ session there. Went-asked told (moves_by (Session session) h) (requests_by session (statements script))
    (shown_to session rs) (legal.sessions session there).answered))
    (IsLegal-plain told script h rs legal) fits

reply_text-some : (line : ℕ) (name : List ℕ) (reply : Reply) (more : List ℕ)
    → [] ≡ reply_text line name reply ++ more → ⊥
unfolding reply_text
reply_text-some line name reply more same =
    let text : List ℕ = decimal line ++ (32 ∷ (name ++ (32 ∷ announced reply))) in
    let others : List ℕ = flat_map as_line (following reply) in
    let none : 0 ≡ length ((as_line text ++ others) ++ more) = ap length same in
    omega (
      arith,
      none,
      length-append (as_line text ++ others) more,
      length-append (text ++ 10 ∷ []) others,
      length-append text (10 ∷ []),
    )

IsName-at : (names : List (List ℕ)) (i : ℕ) → AllByRecursion IsName names → i < length names
    → IsName (name_at names i)
IsName-at [] i all there = absurd (omega arith)
IsName-at (n ∷ names) zero all there = all.0
IsName-at (n ∷ names) (suc i) all there = IsName-at names i all.1 (omega (arith, there))

module _ (told : Bool) (script : Script) (h : List Entry) (names : AreNames script.names) (high : ℕ)
    (order : AreInOrder 0 high (statements script)) (small : high ≤ 2 ^ 32) where
  -- sessions of one name are one
  one_session : (i j : ℕ) → i < length script.names → j < length script.names
      → name_at script.names i ≡ name_at script.names j → i ≡ j
  one_session i j there too same =
      names.1 i j (name_at script.names i) (slice_get-get_or script.names i [] there)
      (slice_get-get_or script.names j [] too ∙ ap Some (sym same))

  -- the line of a known reply is one of 32 bits
  small_line : (r : Shown) → IsKnown told script h r → r.line < 2 ^ 32
  small_line r known =
      let facts = In-facts 0 high known.asked.request (requests_by r.session (statements script))
      (AreInOrder-requests_by 0 high r.session (statements script) order) known.asked.is in
      let line : known.asked.request.line ≡ r.line = same_Some _ _ (sym facts.2 ∙ known.asked.at) in
      omega (arith, facts.1, line, small)

  -- known replies at one line to one session have one shape
  one_shape : (r s : Shown) → IsKnown told script h r → IsKnown told script h s
      → r.line ≡ s.line → r.session ≡ s.session → HaveOneShape r.reply s.reply
  one_shape r s a b lines sessions =
      let mine : List Move = moves_by (Session s.session) h in
      let requests : List Request = requests_by s.session (statements script) in
      let in_order = AreInOrder-requests_by 0 high s.session (statements script) order in
      let moved : IsAsked told mine requests r =
      subst (λ i. IsAsked told (moves_by (Session i) h) (requests_by i (statements script)) r) sessions
      a.asked in
      let facts = In-facts 0 high moved.request requests in_order moved.is in
      let too = In-facts 0 high b.asked.request requests in_order b.asked.is in
      let line : moved.request.line ≡ r.line = same_Some _ _ (sym facts.2 ∙ moved.at) in
      let other : b.asked.request.line ≡ s.line = same_Some _ _ (sym too.2 ∙ b.asked.at) in
      let same : moved.request ≡ b.asked.request =
      In-one 0 high moved.request b.asked.request requests in_order moved.is b.asked.is (line ∙ lines
      ∙ sym other) in
      shapes_are told b.asked.request (for_line b.asked.request.line mine) r.reply s.reply
      (subst (λ (x : Request). Form told x (record { moves = for_line x.line mine; reply = Some r.reply }))
      same moved.form) b.asked.form

  -- so the text fixes them, one by one
  fixed : (a b : List Shown) → AllByRecursion (IsKnown told script h) a
      → AllByRecursion (IsKnown told script h) b
      → replies_text script.names a ≡ replies_text script.names b → a ≡ b
  fixed [] [] known too same = refl
  fixed [] (s ∷ ss) known too same =
      absurd (reply_text-some s.line (name_at script.names s.session) s.reply (replies_text script.names ss)
      same)
  fixed (r ∷ rs) [] known too same =
      absurd (reply_text-some r.line (name_at script.names r.session) r.reply (replies_text script.names rs)
      (sym same))
  fixed (r ∷ rs) (s ∷ ss) known too same =
      let first = IsName-at script.names r.session names.0 known.0.heard in
      let other = IsName-at script.names s.session names.0 too.0.heard in
      let few = small_line r known.0 in
      let many = small_line s too.0 in
      let asked = reply_text-same r.line s.line (name_at script.names r.session)
      (name_at script.names s.session)
      r.reply s.reply (replies_text script.names rs) (replies_text script.names ss) few many first other same
      in
      let sessions : r.session ≡ s.session =
      one_session r.session s.session known.0.heard too.0.heard asked.1 in
      let shape : HaveOneShape r.reply s.reply = one_shape r s known.0 too.0 asked.0 sessions in
      let all = reply_text-read r.line s.line (name_at script.names r.session)
      (name_at script.names s.session)
      r.reply s.reply (replies_text script.names rs) (replies_text script.names ss) few many first other
      known.0.clean too.0.clean shape same in
      let rest : rs ≡ ss = fixed rs ss known.1 too.1 all.3 in
      (λ i. record { line = asked.0 i; session = sessions i; reply = all.2 i } ∷ rest i)

pub text_fixes_replies : TextFixesReplies
text_fixes_replies told mode bytes script h a b few spelled legal other fits too same =
    let high : ℕ = 1 + length (pieces bytes) in
    fixed told script h
    (AreNames-lines mode 1 [] (pieces bytes) script.lines script.names spelled
    (tt, (λ i j name here there. absurd (none-some name here))))
    high
    (AreInOrder-statements 0 high script.lines
    (AreBetween-lines mode 0 1 [] (pieces bytes) script.lines script.names (omega arith) spelled))
    (omega (arith, few, length-pieces bytes))
    a b (known_from told script h a legal fits) (known_from told script h b other too) same
