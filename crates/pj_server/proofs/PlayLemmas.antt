-- What is written line by line, and what that makes of a whole run.
use Rattle.std.proofs.Common.{◌≡◌, ℕ, ◌+◌, ◌<◌, ◌≤◌, suc, Bool, true, false, ◌&&◌, cond, nat_le}
use Rattle.std.proofs.Common.{List, [], ◌∷◌, ◌++◌, length, get_or, take, map}
use Rattle.std.proofs.Common.{Option, Some, refl, sym, ap, subst, ◌∙◌, inl, inr, arith}
use Rattle.std.proofs.Common.{Result, Ok, Err, OnOk, OnErr}
use Rattle.std.specs.Prelude.{codes}
use Rattle.std.specs.Fmt.{decimal}
use Rattle.std.specs.Io.KnownBytes.{Appends}
use Rattle.std.proofs.KnownBytes.{Appends-nil, Appends-trans}
use Rattle.std.proofs.lemmas.Bool.{le-leb}
use Rattle.std.proofs.lemmas.List.{take_all, take-map, map_more, take-append-le, length-map, length-append}
use Rattle.pj_io.specs.Transfers.{AppendsPart}
use Rattle.pj_script.specs.declared.types.ScriptMode.TheVariants.{Play}
use Rattle.pj_script.specs.declared.types.Script.{Script}
use Rattle.pj_script.specs.declared.types.ScriptLine.{ScriptLine}
use Rattle.pj_script.specs.Lines.{IsScript, IsBadLine}
use Rattle.pj_script.specs.LineLaws.{RisesFrom}
use Rattle.pj_journal.specs.declared.entry.Entry.{Entry}
use Rattle.pj_journal.specs.History.{IsRegular}
use Rattle.pj_journal.specs.Log.{Log, empty_log}
use Rattle.pj_legal.specs.declared.reply.Reply.{Reply}
use Rattle.pj_legal.specs.Statements.{whole, body_of, statement_of, statements, Shown}
use Rattle.pj_legal.specs.Shares.{Rise}
use Rattle.pj_legal.specs.Run.{IsStep, shown_at}
use Rattle.pj_legal.specs.Laws.{request_lines, AreNamed, RunsAreLegal, CutRunsAreLegal, RunGoesOn, TextsGoOn}
use Rattle.pj_legal.specs.Texts.{as_line, name_at, reply_text, shown_text, replies_text, entries_text}
use Rattle.pj_legal.specs.Texts.{history_text}
use Rattle.pj_server.specs.declared.ending.End.{End}
use Rattle.pj_server.specs.declared.ending.End.TheVariants.{Usage, SourceFailed, TooLarge, BadLine}
use Rattle.pj_server.specs.declared.ending.End.TheVariants.{SinkFailed, NoMemory, Finished}
use Rattle.pj_server.specs.Moves.{Serves}
use Rattle.pj_server.specs.PortFaults.{Counted, IsBlamed}
use Rattle.pj_server.proofs.PortLemmas.{AreBlamed-none, AreBlamed-more}
use Rattle.pj_server.specs.RunLines.{Writes, RunsLine, RunsLines}
use Rattle.pj_server.specs.Ends.{TellsLine, WholeScript, PartScript, ScriptEnds, FinishesSo}
use Rattle.pj_server.specs.Played.{history_entries, IsRead, bad_line_text, TellsBadLine, RunsSo, EndsSo}

-- ---- proper prefixes of a text

pub AppendsPart-none : (a : Option (List ℕ)) (text : List ℕ) → 0 < length text → AppendsPart a a text
AppendsPart-none a text some = (0, some, Appends-nil a)

-- what begins with a line is not empty
line-some : (text more : List ℕ) → 0 < length (as_line text ++ more)
line-some text more =
    omega (arith, length-append (text ++ 10 ∷ []) more, length-append text (10 ∷ []))

pub reply_text-some : (line : ℕ) (name : List ℕ) (reply : Reply) → 0 < length (reply_text line name reply)
unfolding reply_text
reply_text-some line name reply = line-some _ _

pub history_text-some : (names : List (List ℕ)) (h : List Entry) → 0 < length (history_text names h)
history_text-some names h =
    line-some (codes "history " ++ decimal (length h)) (entries_text names [] h)

pub bad_line_text-some : (line : ℕ) → 0 < length (bad_line_text line)
bad_line_text-some line = omega (arith, length-append (codes "bad script line " ++ decimal line) (10 ∷ []))

take-past : (xs ys : List ℕ) (n : ℕ) → take (length xs + n) (xs ++ ys) ≡ xs ++ take n ys
take-past [] ys n = ap (λ k. take k ys) (omega arith)
take-past (x ∷ xs) ys n =
    let more : length (x ∷ xs) + n ≡ suc (length xs + n) = omega arith in
    rw more (ap (λ zs. x ∷ zs) (take-past xs ys n))

pub AppendsPart-after : (a b c : Option (List ℕ)) (xs ys : List ℕ) → Appends a b xs → AppendsPart b c ys
    → AppendsPart a c (xs ++ ys)
AppendsPart-after a b c xs ys p q = (
  length xs + q.0,
  omega (arith, q.1, length-append xs ys),
  subst (Appends a c) (sym (take-past xs ys q.0)) (Appends-trans a b c xs (take q.0 ys) p q.2),
)

-- a proper prefix of a text is one of a longer text
pub AppendsPart-longer : (a b : Option (List ℕ)) (xs ys : List ℕ) → AppendsPart a b xs
    → AppendsPart a b (xs ++ ys)
AppendsPart-longer a b xs ys p =
    let le : p.0 ≤ length xs = omega (arith, p.1) in (
      p.0,
      omega (arith, p.1, length-append xs ys),
      subst (Appends a b) (sym (take-append-le p.0 xs ys le)) p.2,
    )

Writes-after : (end : End) (a b c : Option (List ℕ)) (xs ys : List ℕ) → Appends a b xs → Writes end b c ys
    → Writes end a c (xs ++ ys)
Writes-after Finished a b c xs ys p q = Appends-trans a b c xs ys p q
Writes-after SinkFailed a b c xs ys p q = AppendsPart-after a b c xs ys p q
Writes-after NoMemory a b c xs ys p q = AppendsPart-after a b c xs ys p q
Writes-after (BadLine line) a b c xs ys p q = absurd q
Writes-after Usage a b c xs ys p q = absurd q
Writes-after SourceFailed a b c xs ys p q = absurd q
Writes-after TooLarge a b c xs ys p q = absurd q

-- ---- by how a write ended

pub OnOk-map : {T E P Q : Type 0} (r : Result T E) → (P → Q) → OnOk r P → OnOk r Q
OnOk-map (Ok v) f h = f h
OnOk-map (Err e) f h = tt

pub OnErr-map : {T E P Q : Type 0} (r : Result T E) → (P → Q) → OnErr r P → OnErr r Q
OnErr-map (Ok v) f h = tt
OnErr-map (Err e) f h = f h

pub OnErr-any : {T E P : Type 0} (r : Result T E) → P → OnErr r P
OnErr-any (Ok v) h = tt
OnErr-any (Err e) h = h

-- ---- one line after the other

pub RunsLines-none : (told : Bool) (log : Log) (names : List (List ℕ)) (lines : List ScriptLine)
    (a : Option (List ℕ)) (was : Counted)
    → RunsLines told Finished 0 log log names lines a a was was
RunsLines-none told log names lines a was = record {
  replies = [];
  run = refl;
  limit = refl;
  blamed = AreBlamed-none was;
  written = Appends-nil a;
}

pub RunsLines-more : RunGoesOn → TextsGoOn
    → (told : Bool) (end : End) (i : ℕ) (old mid new : Log) (names : List (List ℕ)) (lines : List ScriptLine)
    (line : ScriptLine) (a b c : Option (List ℕ)) (was between now : Counted)
    → i < length lines → line ≡ get_or lines i line
    → RunsLines told Finished i old mid names lines a b was between
    → RunsLine told end mid new names (statement_of line) b c between now
    → RunsLines told end (i + 1) old new names lines a c was now
RunsLines-more goes_on texts told end i old mid new names lines line a b c was between now lt at so_far one =
    let request = statement_of line in
    let requests = take i (map statement_of lines) in
    let more : take (i + 1) (map statement_of lines) ≡ requests ++ request ∷ [] =
    take-map statement_of (i + 1) lines ∙ map_more statement_of lines i line lt
    ∙ ap (λ l. map statement_of (take i lines) ++ statement_of l ∷ []) (sym at)
    ∙ ap (λ xs. xs ++ request ∷ []) (sym (take-map statement_of i lines)) in
    let added = one.serves.0 in
    let ran : IsStep told old.limit mid.entries request added one.reply =
    subst (λ l. IsStep told l mid.entries request added one.reply) so_far.limit one.serves.2 in
    let run =
    goes_on told old.limit old.entries requests so_far.replies mid.entries request added one.reply so_far.run
    ran in
    let shown : Shown = shown_at request one.reply in
    let text =
    Writes-after end a b c (replies_text names so_far.replies) (shown_text names shown) so_far.written
    one.written in
    record {
      replies = so_far.replies ++ shown ∷ [];
      run = rw (more, one.serves.1.grown) run;
      limit = one.serves.1.limit ∙ so_far.limit;
      blamed = AreBlamed-more so_far.replies shown was between now so_far.blamed one.blamed;
      written = rw (texts names so_far.replies shown) text;
    }

-- ---- a whole script

pub lines_rise : (low : ℕ) (lines : List ScriptLine) → RisesFrom low lines
    → Rise low (request_lines (map statement_of lines))
lines_rise low [] h = tt
lines_rise low (line ∷ lines) h = (h.0, lines_rise line.line lines h.1)

module _ (runs : RunsAreLegal) (parts : CutRunsAreLegal) (told : Bool) (limit : ℕ) (wanted : Bool)
    (script : Script) (log : Log) (was now : Counted) (rise : Rise 0 (request_lines (statements script))) (named : AreNamed script)
    (regular : IsRegular log.entries) (few : length log.entries ≤ log.limit) where
  -- the history's text where some first lines are all
  abbrev tail : ℕ → List ℕ
  tail count = cond (wanted && nat_le (length script.lines) count) (history_text script.names log.entries) []

  part_of : (end : End) (count : ℕ) (a b : Option (List ℕ))
      (r : RunsLines told end count (empty_log limit) log script.names script.lines a b was now) (c : Option (List ℕ))
      → AppendsPart a c (replies_text script.names r.replies ++ tail count)
      → PartScript told limit wanted script log.entries a c was now
  part_of end count a b r c text =
      let legal =
      parts told limit count script r.replies log.entries rise named r.run regular (omega (arith, few, r.limit)) in
      record {
        lines = count;
        replies = r.replies;
        played = legal.0;
        kept = legal.1;
        blamed = r.blamed;
        written = text;
      }

  stopped : (end : End) (count : ℕ) (a b : Option (List ℕ))
      (r : RunsLines told end count (empty_log limit) log script.names script.lines a b was now)
      → AppendsPart a b (replies_text script.names r.replies)
      → PartScript told limit wanted script log.entries a b was now
  stopped end count a b r text = part_of end count a b r b (AppendsPart-longer a b _ (tail count) text)

  all_of : (count : ℕ) (a b : Option (List ℕ))
      (r : RunsLines told Finished count (empty_log limit) log script.names script.lines a b was now) (c : Option (List ℕ))
      → count ≡ length script.lines
      → Appends b c (cond wanted (history_text script.names log.entries) [])
      → WholeScript told limit wanted script log.entries a c was now
  all_of count a b r c all text =
      let same : take count (statements script) ≡ statements script =
      take_all count (statements script) (omega (arith, length-map script.lines statement_of)) in
      let run = rw same at r.run in
      let legal =
      runs told limit script r.replies log.entries rise named run regular (omega (arith, few, r.limit)) in
      record {
        replies = r.replies;
        played = legal.0;
        kept = legal.1;
        blamed = r.blamed;
        written = Appends-trans a b c _ _ r.written text;
      }

  tail_is : (count : ℕ) → count ≡ length script.lines → wanted ≡ true
      → tail count ≡ history_text script.names log.entries
  tail_is count all wish =
      let over : nat_le (length script.lines) count ≡ true = le-leb _ _ (omega arith) in
      ap (λ w. cond (w && nat_le (length script.lines) count) (history_text script.names log.entries) []) wish
      ∙ ap (λ w. cond w (history_text script.names log.entries) []) over

  -- the history's text behind all the replies
  with_history : (end : End) (count : ℕ) (a b c : Option (List ℕ))
      (r : RunsLines told Finished count (empty_log limit) log script.names script.lines a b was now)
      → count ≡ length script.lines → wanted ≡ true
      → Writes end b c (history_text script.names log.entries)
      → ScriptEnds end told limit wanted script log.entries a c was now
  with_history Finished count a b c r all wish h =
      let whole_text : cond wanted (history_text script.names log.entries) []
      ≡ history_text script.names log.entries =
      ap (λ w. cond w (history_text script.names log.entries) []) wish in
      all_of count a b r c all (rw whole_text h)
  with_history SinkFailed count a b c r all wish h =
      part_of Finished count a b r c
      (rw (tail_is count all wish)
      (AppendsPart-after a b c _ (history_text script.names log.entries) r.written h))
  with_history NoMemory count a b c r all wish h =
      part_of Finished count a b r c
      (rw (tail_is count all wish)
      (AppendsPart-after a b c _ (history_text script.names log.entries) r.written h))
  with_history (BadLine line) count a b c r all wish h = absurd h
  with_history Usage count a b c r all wish h = absurd h
  with_history SourceFailed count a b c r all wish h = absurd h
  with_history TooLarge count a b c r all wish h = absurd h

  by_wish : (lines end : End) (count : ℕ) (a b c : Option (List ℕ)) (asked : Bool)
      → (r : RunsLines told lines count (empty_log limit) log script.names script.lines a b was now)
      → (lines ≡ Finished → count ≡ length script.lines)
      → wanted ≡ asked → FinishesSo lines end asked b c (history_text script.names log.entries)
      → ScriptEnds end told limit wanted script log.entries a c was now
  by_wish Finished end count a b c true r all wish h = with_history end count a b c r (all refl) wish h
  by_wish Finished end count a b c false r all wish h =
      let none : cond wanted (history_text script.names log.entries) [] ≡ [] =
      ap (λ w. cond w (history_text script.names log.entries) []) wish in
      subst (λ e. ScriptEnds e told limit wanted script log.entries a c was now) (sym h.0)
      (all_of count a b r c (all refl) (rw (none, h.1) (Appends-nil b)))
  by_wish SinkFailed end count a b c asked r all is h =
      subst (λ e. ScriptEnds e told limit wanted script log.entries a c was now) (sym h.0)
      (subst (λ d. PartScript told limit wanted script log.entries a d was now) (sym h.1)
      (stopped SinkFailed count a b r r.written))
  by_wish NoMemory end count a b c asked r all is h =
      subst (λ e. ScriptEnds e told limit wanted script log.entries a c was now) (sym h.0)
      (subst (λ d. PartScript told limit wanted script log.entries a d was now) (sym h.1)
      (stopped NoMemory count a b r r.written))
  by_wish (BadLine line) end count a b c asked r all is h = absurd r.written
  by_wish Usage end count a b c asked r all is h = absurd r.written
  by_wish SourceFailed end count a b c asked r all is h = absurd r.written
  by_wish TooLarge end count a b c asked r all is h = absurd r.written

  -- the lines, and then the history's text, make the whole
  pub script_ends : (lines end : End) (count : ℕ) (a b c : Option (List ℕ))
      (r : RunsLines told lines count (empty_log limit) log script.names script.lines a b was now)
      → (lines ≡ Finished → count ≡ length script.lines)
      → FinishesSo lines end wanted b c (history_text script.names log.entries)
      → ScriptEnds end told limit wanted script log.entries a c was now
  script_ends lines end count a b c r all h = by_wish lines end count a b c wanted r all refl h

-- ---- the bytes of a script

pub runs_script : (end : End) (told : Bool) (limit : ℕ) (wanted : Bool) (bytes : List ℕ) (script : Script) (h : List Entry)
    (a b : Option (List ℕ)) (was now : Counted)
    → IsScript Play bytes script
    → ScriptEnds end told limit wanted script h a b was now → RunsSo end told limit wanted bytes h a b was now
runs_script Finished told limit wanted bytes script h a b was now spelled e =
    record {
      script = script;
      spelled = spelled;
      replies = e.replies;
      played = e.played;
      kept = e.kept;
      blamed = e.blamed;
      written = e.written;
    }
runs_script SinkFailed told limit wanted bytes script h a b was now spelled e =
    inr (record {
      script = script;
      spelled = spelled;
      lines = e.lines;
      replies = e.replies;
      played = e.played;
      kept = e.kept;
      blamed = e.blamed;
      written = e.written;
    })
runs_script NoMemory told limit wanted bytes script h a b was now spelled e =
    inr (inr (record {
      script = script;
      spelled = spelled;
      lines = e.lines;
      replies = e.replies;
      played = e.played;
      kept = e.kept;
      blamed = e.blamed;
      written = e.written;
    }))
runs_script (BadLine line) told limit wanted bytes script h a b was now spelled e = absurd e
runs_script Usage told limit wanted bytes script h a b was now spelled e = absurd e
runs_script SourceFailed told limit wanted bytes script h a b was now spelled e = absurd e
runs_script TooLarge told limit wanted bytes script h a b was now spelled e = absurd e

pub runs_bad_line : (end : End) (told : Bool) (limit : ℕ) (wanted : Bool) (bytes : List ℕ) (line : ℕ)
    (a b : Option (List ℕ)) (was now : Counted)
    → IsBadLine Play bytes line → now ≡ was
    → TellsLine end line a b → RunsSo end told limit wanted bytes [] a b was now
runs_bad_line (BadLine first) told limit wanted bytes line a b was now bad same e =
    subst (λ n. TellsBadLine n bytes [] a b) (sym e.0) (record { bad = bad; none = refl; written = e.1 })
runs_bad_line SinkFailed told limit wanted bytes line a b was now bad same e =
    inl (record { line = line; bad = bad; none = refl; written = e }, same)
runs_bad_line NoMemory told limit wanted bytes line a b was now bad same e =
    inr (inl (record { line = line; bad = bad; none = refl; written = e }, same))
runs_bad_line Finished told limit wanted bytes line a b was now bad same e = absurd e
runs_bad_line Usage told limit wanted bytes line a b was now bad same e = absurd e
runs_bad_line SourceFailed told limit wanted bytes line a b was now bad same e = absurd e
runs_bad_line TooLarge told limit wanted bytes line a b was now bad same e = absurd e

pub runs_nothing : (told : Bool) (limit : ℕ) (wanted : Bool) (bytes : List ℕ) (a : Option (List ℕ)) (was : Counted)
    → RunsSo NoMemory told limit wanted bytes [] a a was was
runs_nothing told limit wanted bytes a was = inl (record { none = refl; quiet = Appends-nil a }, refl)

-- ---- the whole call

pub ends_read : (end : End) (told : Bool) (wish : Option Bool) (wanted : Bool) (bytes : List ℕ)
    (left rest : Option (List ℕ)) (h : List Entry) (a b : Option (List ℕ)) (was now : Counted)
    → wish ≡ Some wanted → IsRead left rest bytes
    → RunsSo end told history_entries wanted bytes h a b was now → EndsSo end told wish left rest h a b was now
ends_read Finished told wish wanted bytes left rest h a b was now wished read run =
    record { wanted = wanted; wished = wished; bytes = bytes; read = read; run = run }
ends_read (BadLine line) told wish wanted bytes left rest h a b was now wished read run =
    record { wanted = wanted; wished = wished; bytes = bytes; read = read; run = run }
ends_read SinkFailed told wish wanted bytes left rest h a b was now wished read run =
    record { wanted = wanted; wished = wished; bytes = bytes; read = read; run = run }
ends_read NoMemory told wish wanted bytes left rest h a b was now wished read run =
    inr (inr (record { wanted = wanted; wished = wished; bytes = bytes; read = read; run = run }))
ends_read Usage told wish wanted bytes left rest h a b was now wished read run = absurd run
ends_read SourceFailed told wish wanted bytes left rest h a b was now wished read run = absurd run
ends_read TooLarge told wish wanted bytes left rest h a b was now wished read run = absurd run

-- ---- the parts of one line

-- a line whose body is this one
pub runs_line : (told : Bool) (end : End) (old new : Log) (names : List (List ℕ)) (line : ScriptLine)
    (body name text : List ℕ) (reply : Reply) (a b : Option (List ℕ)) (was now : Counted)
    → body ≡ body_of line.act
    → Serves told old new (whole line.line line.name body) reply → IsBlamed reply was now
    → text ≡ reply_text line.line name reply → name_at names line.name ≡ name → Writes end a b text
    → RunsLine told end old new names (statement_of line) a b was now
runs_line told end old new names line body name text reply a b was now act serves blamed is named written =
    let same : whole line.line line.name body ≡ statement_of line = ap (whole line.line line.name) act in
    record {
      reply = reply;
      serves = subst (λ s. Serves told old new s reply) same serves;
      blamed = blamed;
      written = subst (Writes end a b) (is ∙ ap (λ n. reply_text line.line n reply) (sym named)) written;
    }
