-- Replies that are read back from their texts.
use Rattle.std.proofs.Common.{◌≡◌, ℕ, ◌<◌, ◌^◌, ◌++◌, length, Bool, true, false, ◌==◌, if◌then◌else◌}
use Rattle.std.proofs.Common.{List, [], ◌∷◌, map, pred, sym, refl, subst, ap, ◌∙◌, arith, append_assoc}
use Rattle.std.specs.List.{AllByRecursion, flat_map}
use Rattle.std.specs.Fmt.{decimal}
use Rattle.std.proofs.lemmas.Bool.{eqb-false}
use Rattle.std.proofs.lemmas.List.{append_cancel_left}
use Rattle.std.proofs.lemmas.Fmt.{decimal_injective}
use Rattle.pj_value.specs.declared.value.Kind.{Kind}
use Rattle.pj_value.specs.declared.value.Value.{Value}
use Rattle.pj_value.specs.declared.value.Value.TheVariants as values
use Rattle.pj_value.specs.Values.{kind_of}
use Rattle.pj_value.specs.Rows.{KindedRows, HaveKinds}
use Rattle.pj_value.specs.Escaping.{escaped, escaped_byte, Spells}
use Rattle.pj_value.proofs.SpellingLemmas.{Spells-escaped, one_text}
use Rattle.pj_script.specs.Lines.{IsName}
use Rattle.pj_legal.specs.declared.reply.Reply.{Reply}
use Rattle.pj_legal.specs.declared.reply.Reply.TheVariants as replies
use Rattle.pj_legal.specs.Texts.{value_text, row_text, announced, following, as_line, reply_text}
use Rattle.pj_legal.specs.Laws.{IsPlain, SayTheSame}
use Rattle.pj_legal.specs.FixedReplies.{IsCleanValue, AreCleanRows, IsClean, HaveOneShape}
use Rattle.pj_legal.proofs.texts.FreeTexts.{IsFree, IsFree-append, IsFree-decimal, parts_are_same}
use Rattle.pj_legal.proofs.texts.TextLaws.{reply_text-same, announced-same}

-- neither a tab nor a line feed
abbrev IsInside : List ℕ → Type 0
IsInside text = IsFree 9 text × IsFree 10 text

-- none of them in a byte as it is written
IsInside-byte : (b : ℕ) → IsInside (escaped_byte b)
IsInside-byte b = by (b == 92) (b == 9) (b == 10) (b == 13) (b == 0) refl refl
  where
    by : (q r s t u : Bool) → (b == 9) ≡ r → (b == 10) ≡ s
        → IsInside
        (if q then 92 ∷ 92 ∷ [] else
        (if r then 92 ∷ 116 ∷ [] else
        (if s then 92 ∷ 110 ∷ [] else (if t then 92 ∷ 114 ∷ [] else (if u then 92 ∷ 48 ∷ [] else b ∷ [])))))
    by true r s t u no_tab no_feed = (omega arith, omega arith)
    by false true s t u no_tab no_feed = (omega arith, omega arith)
    by false false true t u no_tab no_feed = (omega arith, omega arith)
    by false false false true u no_tab no_feed = (omega arith, omega arith)
    by false false false false true no_tab no_feed = (omega arith, omega arith)
    by false false false false false no_tab no_feed = (
      (eqb-false b 9 no_tab, tt),
      (eqb-false b 10 no_feed, tt),
    )

-- nor in a text as it is written
IsInside-escaped : (text : List ℕ) → IsInside (escaped text)
IsInside-escaped [] = (tt, tt)
IsInside-escaped (b ∷ bs) =
    let first = IsInside-byte b in
    let others = IsInside-escaped bs in (
      IsFree-append 9 (escaped_byte b) (escaped bs) first.0 others.0,
      IsFree-append 10 (escaped_byte b) (escaped bs) first.1 others.1,
    )

-- nor in a value as it is written
IsInside-value : (value : Value) → IsInside (value_text value)
IsInside-value (values.Num n) = (IsFree-decimal 9 n (omega arith), IsFree-decimal 10 n (omega arith))
IsInside-value (values.Text text) = IsInside-escaped text

-- a text can be read back
escaped-same : (text other : List ℕ) → escaped text ≡ escaped other → text ≡ other
escaped-same text other same =
    one_text (escaped other) text other (subst (λ written. Spells written text) same (Spells-escaped text))
    (Spells-escaped other)

-- and so can a value of a known kind
value_text-same : (value other : Value) → IsCleanValue value → IsCleanValue other
    → kind_of value ≡ kind_of other → value_text value ≡ value_text other → value ≡ other
value_text-same (values.Num n) (values.Num m) clean too kind same =
    ap values.Num (decimal_injective n m clean too same)
value_text-same (values.Num n) (values.Text other) clean too kind same = absurd (cc)
value_text-same (values.Text text) (values.Num m) clean too kind same = absurd (cc)
value_text-same (values.Text text) (values.Text other) clean too kind same =
    ap values.Text (escaped-same text other same)

-- a row is one line
IsFree-row : (row : List Value) → IsFree 10 (row_text row)
IsFree-row [] = tt
IsFree-row (v ∷ []) = (IsInside-value v).1
IsFree-row (v ∷ w ∷ vs) =
    IsFree-append 10 (value_text v) (9 ∷ row_text (w ∷ vs)) (IsInside-value v).1
    ((omega arith), IsFree-row (w ∷ vs))

-- a row of values of known kinds can be read back
row_text-same : (row other : List Value) → AllByRecursion IsCleanValue row
    → AllByRecursion IsCleanValue other
    → map kind_of row ≡ map kind_of other → row_text row ≡ row_text other → row ≡ other
row_text-same [] [] clean too kinds same = refl
row_text-same [] (x ∷ xs) clean too kinds same = absurd (cc)
row_text-same (v ∷ vs) [] clean too kinds same = absurd (cc)
row_text-same (v ∷ []) (x ∷ []) clean too kinds same =
    ap (λ one. one ∷ []) (value_text-same v x clean.0 too.0 (cc) same)
row_text-same (v ∷ []) (x ∷ y ∷ ys) clean too kinds same = absurd (cc)
row_text-same (v ∷ w ∷ vs) (x ∷ []) clean too kinds same = absurd (cc)
row_text-same (v ∷ w ∷ vs) (x ∷ y ∷ ys) clean too kinds same =
    let parts = parts_are_same 9 (value_text v) (value_text x) (row_text (w ∷ vs)) (row_text (y ∷ ys))
    (IsInside-value v).0 (IsInside-value x).0 same in
    let first : v ≡ x = value_text-same v x clean.0 too.0 (cc) parts.0 in
    let others : w ∷ vs ≡ y ∷ ys = row_text-same (w ∷ vs) (y ∷ ys) clean.1 too.1 (cc) parts.1 in
    rw (first, others) refl

-- the lines of as many rows can be read back, and what stands behind them
rows_text-same : (kinds : List Kind) (rows known : List (List Value)) (more others : List ℕ)
    → length rows ≡ length known → HaveKinds kinds rows → HaveKinds kinds known
    → AllByRecursion (λ row. AllByRecursion IsCleanValue row) rows
    → AllByRecursion (λ row. AllByRecursion IsCleanValue row) known
    → flat_map as_line (map row_text rows) ++ more ≡ flat_map as_line (map row_text known) ++ others
    → (rows ≡ known) × (more ≡ others)
rows_text-same kinds [] [] more others long shaped formed clean too same = (refl, same)
rows_text-same kinds [] (x ∷ xs) more others long shaped formed clean too same = absurd (cc)
rows_text-same kinds (v ∷ vs) [] more others long shaped formed clean too same = absurd (cc)
rows_text-same kinds (v ∷ vs) (x ∷ xs) more others long shaped formed clean too same =
    let parts = parts_are_same 10 (row_text v) (row_text x) (behind vs more) (behind xs others) (IsFree-row v)
    (IsFree-row x) (sym (first_line v vs more) ∙ same ∙ first_line x xs others) in
    let first : v ≡ x = row_text-same v x clean.0 too.0 (shaped.0 ∙ sym formed.0) parts.0 in
    let rest =
    rows_text-same kinds vs xs more others (ap pred long) shaped.1 formed.1 clean.1 too.1 parts.1 in
    (let rows : vs ≡ xs = rest.0 in rw (first, rows) refl, rest.1)
  where
    behind : List (List Value) → List ℕ → List ℕ
    behind rows text = flat_map as_line (map row_text rows) ++ text

    first_line : (row : List Value) (rows : List (List Value)) (text : List ℕ)
        → flat_map as_line (map row_text (row ∷ rows)) ++ text ≡ row_text row ++ (10 ∷ behind rows text)
    first_line row rows text = simp append_assoc

-- a clean reply is plain
IsClean-plain : (reply : Reply) → IsClean reply → IsPlain reply
IsClean-plain replies.Done clean = tt
IsClean-plain (replies.Rows out) clean = tt
IsClean-plain (replies.Refused refusal) clean = clean.0

-- what stands behind the first line
following-same : (l m : ℕ) (a b : List ℕ) (r s : Reply) (more others : List ℕ) → l ≡ m → a ≡ b
    → announced r ≡ announced s
    → reply_text l a r ++ more ≡ reply_text m b s ++ others
    → flat_map as_line (following r) ++ more ≡ flat_map as_line (following s) ++ others
unfolding reply_text
following-same l m a b r s more others lines names agree same =
    append_cancel_left (first l a r) (flat_map as_line (following r) ++ more)
    (flat_map as_line (following s) ++ others)
    (sym (append_assoc (first l a r) (flat_map as_line (following r)) more) ∙ same
    ∙ append_assoc (first m b s) (flat_map as_line (following s)) others
    ∙ ap (λ text. text ++ (flat_map as_line (following s) ++ others)) (sym heads))
  where
    first : ℕ → List ℕ → Reply → List ℕ
    first line name reply = as_line (decimal line ++ (32 ∷ (name ++ (32 ∷ announced reply))))

    heads : first l a r ≡ first m b s
    heads = rw (lines, names, agree) refl

-- clean rows of the same kinds can be read back
AreCleanRows-same : (out other : KindedRows) (more others : List ℕ) → AreCleanRows out → AreCleanRows other
    → out.kinds ≡ other.kinds → length out.rows ≡ length other.rows
    → flat_map as_line (map row_text out.rows) ++ more ≡ flat_map as_line (map row_text other.rows) ++ others
    → (out ≡ other) × (more ≡ others)
AreCleanRows-same out other more others clean too kinds long same =
    let rest = rows_text-same other.kinds out.rows other.rows more others long
    (subst (λ ks. HaveKinds ks out.rows) kinds clean.kinded) too.kinded clean.values too.values same in
    ((λ i. record { kinds = kinds i; rows = rest.0 i }), rest.1)

-- a clean reply can be read back once it is known what it announces
reply-same : (r s : Reply) (more others : List ℕ) → IsClean r → IsClean s → HaveOneShape r s → SayTheSame r s
    → flat_map as_line (following r) ++ more ≡ flat_map as_line (following s) ++ others
    → (r ≡ s) × (more ≡ others)
reply-same replies.Done replies.Done more others clean too shape agree same = (refl, same)
reply-same replies.Done (replies.Rows other) more others clean too shape agree same = absurd agree
reply-same replies.Done (replies.Refused other) more others clean too shape agree same = absurd agree
reply-same (replies.Rows out) replies.Done more others clean too shape agree same = absurd agree
reply-same (replies.Rows out) (replies.Rows other) more others clean too shape agree same =
    let rest =
    AreCleanRows-same out other more others clean too shape (agree clean.few too.few) same in
    (ap replies.Rows rest.0, rest.1)
reply-same (replies.Rows out) (replies.Refused other) more others clean too shape agree same = absurd agree
reply-same (replies.Refused refusal) replies.Done more others clean too shape agree same = absurd agree
reply-same (replies.Refused refusal) (replies.Rows other) more others clean too shape agree same =
    absurd agree
reply-same (replies.Refused refusal) (replies.Refused other) more others clean too shape agree same =
    (ap replies.Refused (agree clean.1 too.1), same)

-- so a reply can be read back from a text that begins with it
pub reply_text-read : (l m : ℕ) (a b : List ℕ) (r s : Reply) (more others : List ℕ) → l < 2 ^ 32 → m < 2 ^ 32
    → IsName a → IsName b → IsClean r → IsClean s → HaveOneShape r s
    → reply_text l a r ++ more ≡ reply_text m b s ++ others
    → (l ≡ m) × (a ≡ b) × (r ≡ s) × (more ≡ others)
reply_text-read l m a b r s more others few many first other clean too shape same =
    let apart = reply_text-same l m a b r s more others few many first other same in
    let agree = apart.2 (IsClean-plain r clean) (IsClean-plain s too) in
    let rest = reply-same r s more others clean too shape (announced-same r s agree)
    (following-same l m a b r s more others apart.0 apart.1 agree same) in
    (apart.0, apart.1, rest.0, rest.1)
