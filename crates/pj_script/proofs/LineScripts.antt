-- A script is read as it is spelled, up to its first bad line, and has one reading.
use Rattle.std.proofs.Common.{◌≡◌, ℕ, suc, ◌+◌, ◌<◌, ◌≤◌, ◌⊎◌, inl, inr, Bool, true, false, cond}
use Rattle.std.proofs.Common.{List, [], ◌∷◌, ◌++◌, length, Option, Some, None, option_to_list}
use Rattle.std.proofs.Common.{Result, Ok, Err, IfOk, IfErr, refl, sym, ap, subst, ◌∙◌, arith}
use Rattle.std.specs.List.{AllByRecursion}
use Rattle.std.proofs.lemmas.List.{length_push}
use Rattle.std.proofs.lemmas.Option.{slice_get_within}
use Rattle.pj_lex.specs.Bytes.{after_blanks}
use Rattle.pj_script.specs.declared.types.ScriptMode.{ScriptMode}
use Rattle.pj_script.specs.declared.types.Act.{Act}
use Rattle.pj_script.specs.declared.types.Act.TheVariants.{Whole}
use Rattle.pj_script.specs.declared.types.ScriptLine.{ScriptLine}
use Rattle.pj_script.specs.declared.types.Script.{Script}
use Rattle.pj_script.specs.declared.lines.ScriptFault.{ScriptFault}
use Rattle.pj_script.specs.declared.lines.ScriptFault.TheVariants as faults
use Rattle.pj_script.specs.Lines.{pieces, IsSkipped, Numbers, names_limit, SpellsLine}
use Rattle.pj_script.specs.Lines.{AreLines, IsScript, IsBadLine, HasLineCause}
use Rattle.pj_script.specs.LineLaws.{OneReading, ScriptOrBadLine, NoScriptWithABadLine, OneBadLine}
use Rattle.pj_script.specs.LineLaws.{RisesFrom, LinesRise}
use Rattle.pj_script.specs.ReadingLines.{◌>>=◌, Gives, or_bad, is_skipped, name_and_rest}
use Rattle.pj_script.specs.ReadingLines.{body_of, numbered, line_at, lines_at, script_of}
use Rattle.pj_script.proofs.LineSpelling.{IsSkipped-from, is_skipped-is, SpellsAct-from, reads_act}
use Rattle.pj_script.proofs.LineNumbers.{AreDifferent, ok_is, Numbers-from, numbered-is}
use Rattle.pj_script.proofs.LineNumbers.{numbered-err, AreDifferent-numbers}

-- ---- steps

bind_ok : {A B : Type 0} (r : Result A ℕ) (f : A → Result B ℕ) (y : B) → (r >>= f) ≡ Ok y
    → (x : A) × (r ≡ Ok x) × (f x ≡ Ok y)
bind_ok (Ok x) f y e = (x, refl, e)
bind_ok (Err n) f y e = absurd cc

bind_err : {A B : Type 0} (r : Result A ℕ) (f : A → Result B ℕ) (n : ℕ) → (r >>= f) ≡ Err n
    → (r ≡ Err n) ⊎ ((x : A) × (r ≡ Ok x) × (f x ≡ Err n))
bind_err (Ok x) f n e = inr (x, refl, e)
bind_err (Err m) f n e = inl cc

or_bad-ok : {A : Type 0} (at : ℕ) (o : Option A) (x : A) → or_bad at o ≡ Ok x → o ≡ Some x
or_bad-ok at None x e = absurd cc
or_bad-ok at (Some y) x e = cc

-- ---- one piece

-- the names behind a piece, and its line, if it isn't skipped
abbrev Behind : Type 0
Behind = List (List ℕ) × Option ScriptLine

-- the piece is skipped, or spells the line
abbrev pub IsRead : ScriptMode → ℕ → List (List ℕ) → List ℕ → Behind → Type 0
IsRead mode at names piece (after, None) = IsSkipped piece × (after ≡ names)
IsRead mode at names piece (after, Some line) = SpellsLine mode at names after piece line

-- the rest of reading, behind the test for pieces that are skipped
abbrev read_spelled : ScriptMode → ℕ → List (List ℕ) → List ℕ → Result Behind ℕ
read_spelled mode at names piece = do
  x ← or_bad at (name_and_rest (after_blanks piece))
  body ← or_bad at (body_of x.1)
  n ← numbered mode at names x.0
  Ok (n.0, Some (record { line = at; name = n.1; act = Whole body }))

spelled-from : (mode : ScriptMode) (at : ℕ) (names : List (List ℕ)) (piece : List ℕ) (read : Behind)
    → length names ≤ names_limit mode
    → read_spelled mode at names piece ≡ Ok read → IsRead mode at names piece read
spelled-from mode at names piece read few e =
    let a = bind_ok (or_bad at (name_and_rest (after_blanks piece)))
    (λ x. or_bad at (body_of x.1) >>= λ body. numbered mode at names x.0 >>= λ n. Ok
    (n.0, Some (record { line = at; name = n.1; act = Whole body })))
    read e in
    let b =
    bind_ok (or_bad at (body_of a.0.1))
    (λ body. numbered mode at names a.0.0 >>= λ n. Ok
    (n.0, Some (record { line = at; name = n.1; act = Whole body })))
    read a.2 in
    let c =
    bind_ok (numbered mode at names a.0.0)
    (λ n. Ok (n.0, Some (record { line = at; name = n.1; act = Whole b.0 }))) read b.2 in
    let numbers = Numbers-from mode at names c.0.0 a.0.0 c.0.1 few c.1 in
    let made : Behind = (c.0.0, Some (record { line = at; name = c.0.1; act = Whole b.0 })) in
    let spelled : IsRead mode at names piece made = record {
      name = a.0.0;
      spelled =
          SpellsAct-from piece a.0.0 a.0.1 b.0 (or_bad-ok at (name_and_rest (after_blanks piece)) a.0 a.1)
          (or_bad-ok at (body_of a.0.1) b.0 b.1);
      numbered = numbers.0;
      few = numbers.1;
      counted = refl;
    } in
    subst (IsRead mode at names piece) {x = made} (ok_is made read c.2) spelled

line-by : (mode : ScriptMode) (at : ℕ) (names : List (List ℕ)) (piece : List ℕ) (read : Behind)
    (skipped : Bool)
    → is_skipped piece ≡ skipped → length names ≤ names_limit mode
    → cond skipped (Ok (names, None)) (read_spelled mode at names piece) ≡ Ok read
    → IsRead mode at names piece read
line-by mode at names piece read true skipped few e =
    subst (IsRead mode at names piece) (ok_is (names, None) read e) (IsSkipped-from piece skipped, refl)
line-by mode at names piece read false other few e = spelled-from mode at names piece read few e

-- what is read is spelled so
IsRead-from : (mode : ScriptMode) (at : ℕ) (names : List (List ℕ)) (piece : List ℕ) (read : Behind)
    → length names ≤ names_limit mode → line_at mode at names piece ≡ Ok read
    → IsRead mode at names piece read
unfolding line_at
IsRead-from mode at names piece read few e = line-by mode at names piece read (is_skipped piece) refl few e

line_at-skipped : (mode : ScriptMode) (at : ℕ) (names : List (List ℕ)) (piece : List ℕ) → IsSkipped piece
    → line_at mode at names piece ≡ Ok (names, None)
unfolding line_at
line_at-skipped mode at names piece skipped = rw (is_skipped-is piece skipped) refl

line-is : (line : ScriptLine) (at : ℕ) (act : Act) → line.line ≡ at → line.act ≡ act
    → record { line = at; name = line.name; act = act } ≡ line
line-is line at act counted asks = rw (← counted, ← asks) refl

-- and what is spelled so is read
line_at-is : (mode : ScriptMode) (at : ℕ) (names after : List (List ℕ)) (piece : List ℕ) (line : ScriptLine)
    → AreDifferent names → SpellsLine mode at names after piece line
    → line_at mode at names piece ≡ Ok (after, Some line)
unfolding line_at
line_at-is mode at names after piece line different spelled =
    let reads = reads_act piece spelled.name line.act spelled.spelled in
    let number =
    numbered-is mode at names after spelled.name line.name different spelled.numbered spelled.few in
    rw (reads.not_skipped, reads.name_read, reads.body_read, number)
    (ap (λ (x : ScriptLine). Ok (after, Some x))
    (line-is line at (Whole reads.body) spelled.counted reads.whole))

-- a piece that isn't read is a bad line: its number is the piece's
or_bad-err : {A : Type 0} (at : ℕ) (o : Option A) (n : ℕ) → or_bad at o ≡ Err n → n ≡ at
or_bad-err at None n e = cc
or_bad-err at (Some x) n e = absurd cc

spelled-err : (mode : ScriptMode) (at : ℕ) (names : List (List ℕ)) (piece : List ℕ) (n : ℕ)
    → read_spelled mode at names piece ≡ Err n → n ≡ at
spelled-err mode at names piece n e =
    elim (bind_err (or_bad at (name_and_rest (after_blanks piece)))
    (λ x. or_bad at (body_of x.1) >>= λ body. numbered mode at names x.0 >>= λ n. Ok
    (n.0, Some (record { line = at; name = n.1; act = Whole body })))
    n e) [
      | inl no_name ↦ or_bad-err at (name_and_rest (after_blanks piece)) n no_name
      | inr a ↦
          elim (bind_err (or_bad at (body_of a.0.1))
          (λ body. numbered mode at names a.0.0 >>= λ n. Ok
          (n.0, Some (record { line = at; name = n.1; act = Whole body })))
          n a.2) [
            | inl no_body ↦ or_bad-err at (body_of a.0.1) n no_body
            | inr b ↦
                elim (bind_err (numbered mode at names a.0.0)
                (λ n. Ok (n.0, Some (record { line = at; name = n.1; act = Whole b.0 }))) n b.2) [
                  | inl many ↦ numbered-err mode at names a.0.0 n many
                  | inr c ↦ absurd cc
                ]
          ]
    ]

err-by : (mode : ScriptMode) (at : ℕ) (names : List (List ℕ)) (piece : List ℕ) (n : ℕ) (skipped : Bool)
    → cond skipped (Ok (names, None)) (read_spelled mode at names piece) ≡ Err n → n ≡ at
err-by mode at names piece n true e = absurd cc
err-by mode at names piece n false e = spelled-err mode at names piece n e

line_at-err : (mode : ScriptMode) (at : ℕ) (names : List (List ℕ)) (piece : List ℕ) (n : ℕ)
    → line_at mode at names piece ≡ Err n → n ≡ at
unfolding line_at
line_at-err mode at names piece n e = err-by mode at names piece n (is_skipped piece) e

-- a piece that isn't read is neither skipped nor a line
no_skipped-err : (mode : ScriptMode) (at : ℕ) (names : List (List ℕ)) (piece : List ℕ) (n : ℕ)
    → line_at mode at names piece ≡ Err n → IsSkipped piece → ⊥
no_skipped-err mode at names piece n e skipped =
    let read = line_at-skipped mode at names piece skipped in absurd cc

no_line-err : (mode : ScriptMode) (at : ℕ) (names after : List (List ℕ)) (piece : List ℕ) (line : ScriptLine)
    (n : ℕ)
    → AreDifferent names → line_at mode at names piece ≡ Err n
    → SpellsLine mode at names after piece line → ⊥
no_line-err mode at names after piece line n different e spelled =
    let read = line_at-is mode at names after piece line different spelled in absurd cc

-- ---- names behind a piece

few-read : (mode : ScriptMode) (at : ℕ) (names : List (List ℕ)) (piece : List ℕ) (read : Behind)
    → length names ≤ names_limit mode → IsRead mode at names piece read → length read.0 ≤ names_limit mode
few-read mode at names piece (after, None) few spelled = rw spelled.1 few
few-read mode at names piece (after, Some line) few spelled = spelled.few

different-read : (mode : ScriptMode) (at : ℕ) (names : List (List ℕ)) (piece : List ℕ) (read : Behind)
    → AreDifferent names → IsRead mode at names piece read → AreDifferent read.0
different-read mode at names piece (after, None) different spelled =
    subst AreDifferent (sym spelled.1) different
different-read mode at names piece (after, Some line) different spelled =
    AreDifferent-numbers names after spelled.name line.name different spelled.numbered

-- ---- all pieces

-- the names behind pieces, and their lines
abbrev Lines : Type 0
Lines = List (List ℕ) × List ScriptLine

AreLines-cons : (mode : ScriptMode) (at : ℕ) (names : List (List ℕ)) (piece : List ℕ) (more : List (List ℕ))
    (read : Behind) (others : Lines)
    → IsRead mode at names piece read
    → AreLines mode (at + 1) read.0 more others.1 others.0
    → AreLines mode at names (piece ∷ more) (option_to_list read.1 ++ others.1) others.0
AreLines-cons mode at names piece more (after, None) others spelled rest =
    inl (
      spelled.0,
      subst (λ (x : List (List ℕ)). AreLines mode (at + 1) x more others.1 others.0) spelled.1 rest,
    )
AreLines-cons mode at names piece more (after, Some line) others spelled rest =
    inr (line, others.1, after, spelled, refl, rest)

pub AreLines-from : (mode : ScriptMode) (at : ℕ) (names : List (List ℕ)) (ps : List (List ℕ)) (read : Lines)
    → length names ≤ names_limit mode → lines_at mode at names ps ≡ Ok read
    → AreLines mode at names ps read.1 read.0
unfolding lines_at
AreLines-from mode at names [] read few e =
    let P : Lines → Type 0 = λ x. (x.1 ≡ []) × (x.0 ≡ names) in
    subst P (ok_is (names, []) read e) (refl, refl)
AreLines-from mode at names (piece ∷ more) read few e =
    let a =
    bind_ok (line_at mode at names piece)
    (λ x. lines_at mode (at + 1) x.0 more >>= λ y. Ok (y.0, option_to_list x.1 ++ y.1)) read e in
    let b =
    bind_ok (lines_at mode (at + 1) a.0.0 more) (λ y. Ok (y.0, option_to_list a.0.1 ++ y.1)) read a.2 in
    let spelled = IsRead-from mode at names piece a.0 few a.1 in
    let rest =
    AreLines-from mode (at + 1) a.0.0 more b.0 (few-read mode at names piece a.0 few spelled) b.1 in
    let P : Lines → Type 0 = λ x. AreLines mode at names (piece ∷ more) x.1 x.0 in
    subst P (ok_is (b.0.0, option_to_list a.0.1 ++ b.0.1) read b.2)
    (AreLines-cons mode at names piece more a.0 b.0 spelled rest)

pub lines_at-is : (mode : ScriptMode) (at : ℕ) (names after : List (List ℕ)) (ps : List (List ℕ))
    (lines : List ScriptLine)
    → AreDifferent names → AreLines mode at names ps lines after
    → lines_at mode at names ps ≡ Ok (after, lines)
unfolding lines_at
lines_at-is mode at names after [] lines different are = rw (are.0, are.1) refl
lines_at-is mode at names after (piece ∷ more) lines different (inl (skipped, rest)) =
    rw (
      line_at-skipped mode at names piece skipped,
      lines_at-is mode (at + 1) names after more lines different rest,
    )
    refl
lines_at-is mode at names after (piece ∷ more) lines different
    (inr (line, others, now, spelled, both, rest)) =
    let still = AreDifferent-numbers names now spelled.name line.name different spelled.numbered in
    rw (
      line_at-is mode at names now piece line different spelled,
      lines_at-is mode (at + 1) now after more others still rest,
      both,
    )
    refl

-- ---- the first bad line

-- the first of the pieces that is neither skipped nor spells a line
record IsFirstBad (mode : ScriptMode) (at : ℕ) (before : List (List ℕ)) (ps : List (List ℕ))
    (number : ℕ) : Type 0 where
  prefix : List (List ℕ)
  piece : List ℕ
  back : List (List ℕ)
  parts : ps ≡ prefix ++ piece ∷ back
  counted : number ≡ length prefix + at
  lines : List ScriptLine
  names : List (List ℕ)
  good : AreLines mode at before prefix lines names
  not_skipped : IsSkipped piece → ⊥
  no_line : (line : ScriptLine) (now : List (List ℕ)) → SpellsLine mode number names now piece line → ⊥

IsFirstBad-cons : (mode : ScriptMode) (at : ℕ) (before : List (List ℕ)) (piece : List ℕ)
    (more : List (List ℕ)) (read : Behind) (number : ℕ)
    → IsRead mode at before piece read
    → IsFirstBad mode (at + 1) read.0 more number → IsFirstBad mode at before (piece ∷ more) number
IsFirstBad-cons mode at before piece more read number spelled bad = record {
  prefix = piece ∷ bad.prefix;
  piece = bad.piece;
  back = bad.back;
  parts = ap (λ (x : List (List ℕ)). piece ∷ x) bad.parts;
  counted = omega (arith, bad.counted);
  lines = option_to_list read.1 ++ bad.lines;
  names = bad.names;
  good = AreLines-cons mode at before piece bad.prefix read (bad.names, bad.lines) spelled bad.good;
  not_skipped = bad.not_skipped;
  no_line = bad.no_line;
}

IsFirstBad-here : (mode : ScriptMode) (at : ℕ) (before : List (List ℕ)) (piece : List ℕ)
    (more : List (List ℕ)) (number : ℕ)
    → AreDifferent before → line_at mode at before piece ≡ Err number
    → IsFirstBad mode at before (piece ∷ more) number
IsFirstBad-here mode at before piece more number different e =
    let here : number ≡ at = line_at-err mode at before piece number e in
    record {
      prefix = [];
      piece = piece;
      back = more;
      parts = refl;
      counted = omega arith;
      lines = [];
      names = before;
      good = (refl, refl);
      not_skipped = no_skipped-err mode at before piece number e;
      no_line =
          λ line now spelled. no_line-err mode at before now piece line number different e
          (subst (λ (x : ℕ). SpellsLine mode x before now piece line) here spelled);
    }

IsFirstBad-from : (mode : ScriptMode) (at : ℕ) (names : List (List ℕ)) (ps : List (List ℕ)) (number : ℕ)
    → length names ≤ names_limit mode → AreDifferent names
    → lines_at mode at names ps ≡ Err number → IsFirstBad mode at names ps number
unfolding lines_at
IsFirstBad-from mode at names [] number few different e = absurd cc
IsFirstBad-from mode at names (piece ∷ more) number few different e =
    elim (bind_err (line_at mode at names piece)
    (λ x. lines_at mode (at + 1) x.0 more >>= λ y. Ok (y.0, option_to_list x.1 ++ y.1)) number e) [
      | inl here ↦ IsFirstBad-here mode at names piece more number different here
      | inr a ↦
          elim (bind_err (lines_at mode (at + 1) a.0.0 more)
          (λ y. Ok (y.0, option_to_list a.0.1 ++ y.1)) number a.2) [
            | inl later ↦
                let spelled = IsRead-from mode at names piece a.0 few a.1 in
                IsFirstBad-cons mode at names piece more a.0 number spelled
                (IsFirstBad-from mode (at + 1) a.0.0 more number
                (few-read mode at names piece a.0 few spelled)
                (different-read mode at names piece a.0 different spelled) later)
            | inr b ↦ absurd cc
          ]
    ]

-- where pieces are read whole, so is each of them
read_at : (mode : ScriptMode) (at : ℕ) (names : List (List ℕ)) (prefix : List (List ℕ)) (piece : List ℕ)
    (back : List (List ℕ)) (good whole : Lines)
    → lines_at mode at names prefix ≡ Ok good
    → lines_at mode at names (prefix ++ piece ∷ back) ≡ Ok whole
    → (read : Behind) × (line_at mode (length prefix + at) good.0 piece ≡ Ok read)
unfolding lines_at
read_at mode at names [] piece back good whole first all =
    let a =
    bind_ok (line_at mode at names piece)
    (λ x. lines_at mode (at + 1) x.0 back >>= λ y. Ok (y.0, option_to_list x.1 ++ y.1)) whole all in
    let same : names ≡ good.0 = ap (λ (x : Lines). x.0) (ok_is (names, []) good first) in
    let none : 0 + at ≡ at = omega arith in
    (a.0, rw (none, ← same) a.1)
read_at mode at names (p ∷ prefix) piece back good whole first all =
    let a =
    bind_ok (line_at mode at names p)
    (λ x. lines_at mode (at + 1) x.0 prefix >>= λ y. Ok (y.0, option_to_list x.1 ++ y.1)) good first in
    let b =
    bind_ok (lines_at mode (at + 1) a.0.0 prefix) (λ y. Ok (y.0, option_to_list a.0.1 ++ y.1)) good a.2 in
    let c =
    bind_ok (line_at mode at names p)
    (λ x. lines_at mode (at + 1) x.0 (prefix ++ piece ∷ back) >>= λ y. Ok
    (y.0, option_to_list x.1 ++ y.1))
    whole all in
    let d =
    bind_ok (lines_at mode (at + 1) c.0.0 (prefix ++ piece ∷ back))
    (λ y. Ok (y.0, option_to_list c.0.1 ++ y.1)) whole c.2 in
    let same : c.0 ≡ a.0 = ok_is c.0 a.0 (sym c.1 ∙ a.1) in
    let names-is : b.0.0 ≡ good.0 =
    ap (λ (x : Lines). x.0) (ok_is (b.0.0, option_to_list a.0.1 ++ b.0.1) good b.2) in
    let later : lines_at mode (at + 1) a.0.0 (prefix ++ piece ∷ back) ≡ Ok d.0 =
    subst (λ (x : Behind). lines_at mode (at + 1) x.0 (prefix ++ piece ∷ back) ≡ Ok d.0) same d.1 in
    let rest = read_at mode (at + 1) a.0.0 prefix piece back b.0 d.0 b.1 later in
    let count : length prefix + (at + 1) ≡ suc (length prefix) + at = omega arith in (
      rest.0,
      subst (λ (x : List (List ℕ)). line_at mode (suc (length prefix) + at) x piece ≡ Ok rest.0) names-is
          (subst (λ (k : ℕ). line_at mode k b.0.0 piece ≡ Ok rest.0) count rest.1),
    )

-- ---- scripts

AreDifferent-nil : AreDifferent []
AreDifferent-nil i j name at_i at_j = absurd cc

few-nil : (mode : ScriptMode) → length {A = List ℕ} [] ≤ names_limit mode
few-nil mode = omega arith

few-lines : (mode : ScriptMode) (at : ℕ) (before after : List (List ℕ)) (ps : List (List ℕ))
    (lines : List ScriptLine)
    → length before ≤ names_limit mode → AreLines mode at before ps lines after
    → length after ≤ names_limit mode
few-lines mode at before after [] lines few are = rw are.1 few
few-lines mode at before after (piece ∷ more) lines few (inl (skipped, rest)) =
    few-lines mode (at + 1) before after more lines few rest
few-lines mode at before after (piece ∷ more) lines few (inr (line, others, now, spelled, both, rest)) =
    few-lines mode (at + 1) now after more others spelled.few rest

-- what a script is read as
IsScript-from : (mode : ScriptMode) (bytes : List ℕ) (script : Script) → script_of mode bytes ≡ Ok script
    → IsScript mode bytes script
unfolding script_of
IsScript-from mode bytes script e =
    let a =
    bind_ok (lines_at mode 1 [] (pieces bytes))
    (λ x. Ok (record { names = x.0; lines = x.1 })) script e in
    let made : Script = record { names = a.0.0; lines = a.0.1 } in
    subst (IsScript mode bytes) (ok_is made script a.2)
    (AreLines-from mode 1 [] (pieces bytes) a.0 (few-nil mode) a.1)

script_of-is : (mode : ScriptMode) (bytes : List ℕ) (script : Script) → IsScript mode bytes script
    → script_of mode bytes ≡ Ok script
unfolding script_of
script_of-is mode bytes script spelled =
    rw (lines_at-is mode 1 [] script.names (pieces bytes) script.lines AreDifferent-nil spelled) refl

IsBadLine-from : (mode : ScriptMode) (bytes : List ℕ) (number : ℕ) → script_of mode bytes ≡ Err number
    → IsBadLine mode bytes number
unfolding script_of
IsBadLine-from mode bytes number e =
    elim (bind_err (lines_at mode 1 [] (pieces bytes))
    (λ x. Ok (record { names = x.0; lines = x.1 })) number e) [
      | inl refused ↦
          let bad = IsFirstBad-from mode 1 [] (pieces bytes) number (few-nil mode) AreDifferent-nil refused in
          record {
            prefix = bad.prefix;
            piece = bad.piece;
            back = bad.back;
            parts = bad.parts;
            counted = bad.counted;
            lines = bad.lines;
            names = bad.names;
            good = bad.good;
            not_skipped = bad.not_skipped;
            no_line = bad.no_line;
          }
      | inr a ↦ absurd cc
    ]

pub script_is_found : (mode : ScriptMode) (bytes : List ℕ) (result : Result Script ScriptFault)
    → Gives (λ script. script) result (script_of mode bytes)
    → IfOk result (λ script. IsScript mode bytes script)
script_is_found mode bytes (Ok script) given = IsScript-from mode bytes script given
script_is_found mode bytes (Err fault) given = tt

pub line_is_bad : (mode : ScriptMode) (bytes : List ℕ) (result : Result Script ScriptFault)
    → Gives (λ script. script) result (script_of mode bytes)
    → IfErr result (λ fault. HasLineCause mode bytes fault)
line_is_bad mode bytes (Ok script) given = tt
line_is_bad mode bytes (Err (faults.BadLine n)) given = IsBadLine-from mode bytes n given
line_is_bad mode bytes (Err faults.NoMemory) given = tt

-- ---- laws

pub one_reading : OneReading
one_reading mode bytes a b first second =
    ok_is a b (sym (script_of-is mode bytes a first) ∙ script_of-is mode bytes b second)

-- bytes are read as a script, or up to a bad line
pub script_or_bad_line : ScriptOrBadLine
script_or_bad_line mode bytes = go (script_of mode bytes) refl
  where
    go : (read : Result Script ℕ) → script_of mode bytes ≡ read
        → ((script : Script) × IsScript mode bytes script) ⊎ ((line : ℕ) × IsBadLine mode bytes line)
    go (Ok script) e = inl (script, IsScript-from mode bytes script e)
    go (Err line) e = inr (line, IsBadLine-from mode bytes line e)

-- what is neither skipped nor a line was not read
bad_is_not_read : (mode : ScriptMode) (number : ℕ) (names : List (List ℕ)) (piece : List ℕ) (read : Behind)
    → (IsSkipped piece → ⊥)
    → ((line : ScriptLine) (now : List (List ℕ)) → SpellsLine mode number names now piece line → ⊥)
    → IsRead mode number names piece read → ⊥
bad_is_not_read mode number names piece (after, None) not_skipped no_line read = not_skipped read.0
bad_is_not_read mode number names piece (after, Some line) not_skipped no_line read = no_line line after read

-- no pieces with a bad line among them are lines
behind_bad : (mode : ScriptMode) (bytes : List ℕ) (number : ℕ) (bad : IsBadLine mode bytes number)
    (names : List (List ℕ)) (ps back : List (List ℕ)) (lines : List ScriptLine)
    → ps ≡ bad.prefix ++ bad.piece ∷ back → AreLines mode 1 [] ps lines names → ⊥
behind_bad mode bytes number bad names ps back lines is are =
    let whole = lines_at-is mode 1 [] names ps lines AreDifferent-nil are in
    let good = lines_at-is mode 1 [] bad.names bad.prefix bad.lines AreDifferent-nil bad.good in
    let parts : lines_at mode 1 [] (bad.prefix ++ bad.piece ∷ back) ≡ Ok (names, lines) =
    ap (lines_at mode 1 []) (sym is) ∙ whole in
    let read = read_at mode 1 [] bad.prefix bad.piece back (bad.names, bad.lines) (names, lines) good parts in
    let few = few-lines mode 1 [] bad.names bad.prefix bad.lines (few-nil mode) bad.good in
    bad_is_not_read mode number bad.names bad.piece read.0 bad.not_skipped bad.no_line
    (subst (λ (x : ℕ). IsRead mode x bad.names bad.piece read.0) (sym bad.counted)
    (IsRead-from mode (length bad.prefix + 1) bad.names bad.piece read.0 few read.1))

pub no_script_with_a_bad_line : NoScriptWithABadLine
no_script_with_a_bad_line mode bytes script number spelled bad =
    behind_bad mode bytes number bad script.names (pieces bytes) bad.back script.lines bad.parts spelled

-- two ways to cut a list at an element: at one index, or one of them is among what is before the other
abbrev AreCuts : {X : Type 0} → List X → X → List X → X → Type 0
AreCuts {X} prefix x other y =
    (length prefix ≡ length other) ⊎ ((more : List X) × (other ≡ prefix ++ x ∷ more))
    ⊎ ((more : List X) × (prefix ≡ other ++ y ∷ more))

AreCuts-behind : {X : Type 0} (z : X) (prefix : List X) (x : X) (other : List X) (y : X)
    → AreCuts prefix x other y → AreCuts (z ∷ prefix) x (z ∷ other) y
AreCuts-behind z prefix x other y (inl same) = inl (ap suc same)
AreCuts-behind z prefix x other y (inr (inl (more, is))) = inr (inl (more, ap (λ xs. z ∷ xs) is))
AreCuts-behind z prefix x other y (inr (inr (more, is))) = inr (inr (more, ap (λ xs. z ∷ xs) is))

cuts : {X : Type 0} (prefix : List X) (x : X) (back : List X) (other : List X) (y : X) (rest : List X)
    → prefix ++ x ∷ back ≡ other ++ y ∷ rest → AreCuts prefix x other y
cuts [] x back [] y rest e = inl refl
cuts [] x back (z ∷ other) y rest e = inr (inl (other, cc))
cuts (z ∷ prefix) x back [] y rest e = inr (inr (prefix, cc))
cuts (z ∷ prefix) x back (w ∷ other) y rest e =
    let same : z ≡ w = cc in
    subst (λ v. AreCuts (z ∷ prefix) x (v ∷ other) y) same
    (AreCuts-behind z prefix x other y (cuts prefix x back other y rest cc))

pub one_bad_line : OneBadLine
one_bad_line mode bytes m n a b =
    cases (cuts a.prefix a.piece a.back b.prefix b.piece b.back (sym a.parts ∙ b.parts))
  where
    cases : AreCuts a.prefix a.piece b.prefix b.piece → m ≡ n
    cases (inl same) = a.counted ∙ ap (λ k. k + 1) same ∙ sym b.counted
    cases (inr (inl (more, is))) = absurd (behind_bad mode bytes m a b.names b.prefix more b.lines is b.good)
    cases (inr (inr (more, is))) = absurd (behind_bad mode bytes n b a.names a.prefix more a.lines is a.good)

rises : (mode : ScriptMode) (at low : ℕ) (before after : List (List ℕ)) (ps : List (List ℕ))
    (lines : List ScriptLine)
    → low < at → AreLines mode at before ps lines after → RisesFrom low lines
rises mode at low before after [] lines below are = subst (RisesFrom low) (sym are.0) tt
rises mode at low before after (piece ∷ more) lines below (inl (skipped, rest)) =
    rises mode (at + 1) low before after more lines (omega arith) rest
rises mode at low before after (piece ∷ more) lines below (inr (line, others, now, spelled, both, rest)) =
    let counted = spelled.counted in
    subst (RisesFrom low) (sym both)
    (omega arith, rises mode (at + 1) line.line now after more others (omega arith) rest)

-- a number is an index among the names behind its line, and no name is taken away
numbered_within : (before after : List (List ℕ)) (name : List ℕ) (number : ℕ)
    → Numbers before after name number → (number < length after) × (length before ≤ length after)
numbered_within before after name number (inl (got, same)) =
    let within = slice_get_within before number name got in
    let longer : length after ≡ length before = ap length same in
    (omega arith, omega arith)
numbered_within before after name number (inr (new, count, grown)) =
    let longer : length after ≡ length before + 1 = ap length grown ∙ length_push before name in
    (omega arith, omega arith)

grows : (mode : ScriptMode) (at : ℕ) (before after : List (List ℕ)) (ps : List (List ℕ))
    (lines : List ScriptLine)
    → AreLines mode at before ps lines after → length before ≤ length after
grows mode at before after [] lines are = rw are.1 (omega arith)
grows mode at before after (piece ∷ more) lines (inl (skipped, rest)) =
    grows mode (at + 1) before after more lines rest
grows mode at before after (piece ∷ more) lines (inr (line, others, now, spelled, both, rest)) =
    let later = grows mode (at + 1) now after more others rest in
    let first = (numbered_within before now spelled.name line.name spelled.numbered).1 in
    omega arith

named : (mode : ScriptMode) (at : ℕ) (before after : List (List ℕ)) (ps : List (List ℕ))
    (lines : List ScriptLine)
    → AreLines mode at before ps lines after
    → AllByRecursion (λ line. line.name < length after) lines
named mode at before after [] lines are =
    subst (AllByRecursion (λ line. line.name < length after)) (sym are.0) tt
named mode at before after (piece ∷ more) lines (inl (skipped, rest)) =
    named mode (at + 1) before after more lines rest
named mode at before after (piece ∷ more) lines (inr (line, others, now, spelled, both, rest)) =
    let later = grows mode (at + 1) now after more others rest in
    let first = (numbered_within before now spelled.name line.name spelled.numbered).0 in
    subst (AllByRecursion (λ line. line.name < length after)) (sym both)
    (omega arith, named mode (at + 1) now after more others rest)

pub lines_rise : LinesRise
lines_rise mode bytes script spelled = (
  rises mode 1 0 [] script.names (pieces bytes) script.lines (omega arith) spelled,
  named mode 1 [] script.names (pieces bytes) script.lines spelled,
  few-lines mode 1 [] script.names (pieces bytes) script.lines (few-nil mode) spelled,
)
