-- A piece is read as it is spelled: what is skipped, the name, and the body.
use Rattle.std.proofs.Common.{◌≡◌, ◌≢◌, ℕ, inl, inr, Bool, true, false, cond, ◌||◌, List, []}
use Rattle.std.proofs.Common.{◌∷◌, ◌++◌, ◌==◌, nat_lt, length, take, drop, Option, Some}
use Rattle.std.proofs.Common.{None, codes, bytes_eq, refl, sym, ap, subst, ◌∙◌, eqb-true}
use Rattle.std.specs.List.{prefix_len}
use Rattle.std.proofs.lemmas.Bool.{true≢false, false≢true, not-true, not_from_false}
use Rattle.std.proofs.lemmas.Bool.{or_parts, or_from, or_left, or_cases, and_parts}
use Rattle.std.proofs.lemmas.Bool.{and_from, ltb-true, lt-ltb, false_from_ne_true}
use Rattle.std.proofs.lemmas.List.{append-nil, take_at, drop_at, take-append-drop, nil_from_length}
use Rattle.std.proofs.lemmas.Slice.Eq.{bytes_eq-Decides}
use Rattle.std.proofs.lemmas.Option.{cond_some}
use Rattle.pj_script.specs.declared.types.Act.{Act}
use Rattle.pj_script.specs.declared.types.Act.TheVariants.{Whole}
use Rattle.pj_lex.specs.Bytes.{is_blank, is_small, is_digit, AllAre, IsBlank, after_blanks}
use Rattle.pj_script.specs.Lines.{IsSkipped, is_name_byte, IsName, BeginsStart, IsAct, SpellsAct}
use Rattle.pj_script.specs.ReadingLines.{before_blanks, is_empty_or_comment}
use Rattle.pj_script.specs.ReadingLines.{is_skipped, is_name, behind_colon, name_and_rest, is_empty_or_blank}
use Rattle.pj_script.specs.ReadingLines.{begins_start, is_body, body_of}
use Rattle.pj_lex.specs.Tokens.{StopsAt}
use Rattle.pj_lex.proofs.TokenBytes.{run_passes, run_is}
use Rattle.pj_script.proofs.LineBlanks.{after_blanks-is, IsPrefix, prefix_of, IsMiddle, middle_of, middle-is}

cond_option : {A : Type 0} (b : Bool) (o : Option A) (x : A) → cond b o None ≡ Some x
    → (b ≡ true) × (o ≡ Some x)
cond_option true o x e = (refl, e)
cond_option false o x e = absurd cc

-- ---- skipped pieces

skipped_from : (piece blanks more : List ℕ) → IsPrefix piece blanks more → is_empty_or_comment more ≡ true
    → IsSkipped piece
skipped_from piece blanks [] prefix e = inl (rw (prefix.parts, append-nil) prefix.blank)
skipped_from piece blanks (b ∷ bs) prefix e =
    inr (blanks, bs, prefix.blank, prefix.parts ∙ ap (λ (x : ℕ). blanks ++ x ∷ bs) (eqb-true b 35 e))

pub IsSkipped-from : (piece : List ℕ) → is_skipped piece ≡ true → IsSkipped piece
IsSkipped-from piece e = skipped_from piece _ (after_blanks piece) (prefix_of piece) e

pub is_skipped-is : (piece : List ℕ) → IsSkipped piece → is_skipped piece ≡ true
is_skipped-is piece (inl blank) =
    let none : after_blanks piece ≡ [] =
    ap after_blanks (sym (append-nil piece)) ∙ after_blanks-is piece [] blank tt in
    rw none refl
is_skipped-is piece (inr (blanks, more, blank, parts)) =
    let comment : after_blanks piece ≡ 35 ∷ more =
    ap after_blanks parts ∙ after_blanks-is blanks (35 ∷ more) blank refl in
    rw comment refl

-- ---- names

blank_is_no_name : (b : ℕ) → is_blank b ≡ true → is_name_byte b ≡ false
blank_is_no_name b h =
    elim (or_cases (b == 32 || b == 9) (b == 13) h) [
      | inl early ↦ elim (or_cases (b == 32) (b == 9) early) [
        | inl e ↦ rw (eqb-true b 32 e) refl
        | inr e ↦ rw (eqb-true b 9 e) refl
      ]
      | inr e ↦ rw (eqb-true b 13 e) refl
    ]

small_is_no_blank : (b : ℕ) → is_small b ≡ true → is_blank b ≡ false
small_is_no_blank b small =
    false_from_ne_true (is_blank b)
    (λ blank. true≢false
    (sym (or_left (is_small b || is_digit b) (b == 95) (or_left (is_small b) (is_digit b) small))
    ∙ blank_is_no_name b blank))

small_is_no_comment : (b : ℕ) → is_small b ≡ true → (b == 35) ≡ false
small_is_no_comment b small =
    false_from_ne_true (b == 35) (λ e. false≢true (sym (ap is_small (eqb-true b 35 e)) ∙ small))

-- the name that is read is one
IsName-from : (word : List ℕ) → AllAre is_name_byte word → is_name word ≡ true → IsName word
IsName-from [] all e = absurd (false≢true e)
IsName-from (b ∷ bs) all e =
    let both = and_parts (is_small b) (nat_lt (length bs) 32) e in
    (both.0, all.1, ltb-true (length bs) 32 both.1)

is_name-is : (name : List ℕ) → IsName name → is_name name ≡ true
is_name-is [] named = absurd named
is_name-is (b ∷ bs) named =
    and_from (is_small b) (nat_lt (length bs) 32) named.0 (lt-ltb (length bs) 32 named.2)

AllAre-name : (name : List ℕ) → IsName name → AllAre is_name_byte name
AllAre-name [] named = tt
AllAre-name (b ∷ bs) named =
    (or_left (is_small b || is_digit b) (b == 95) (or_left (is_small b) (is_digit b) named.0), named.1)

Stops-name : (middle rest : List ℕ) → IsBlank middle → StopsAt is_name_byte (middle ++ 58 ∷ rest)
Stops-name [] rest blank = refl
Stops-name (b ∷ bs) rest blank = blank_is_no_name b blank.0

behind_colon-from : (word behind : List ℕ) (name rest : List ℕ) → behind_colon word behind ≡ Some (name, rest)
    → (word ≡ name) × (behind ≡ 58 ∷ rest)
behind_colon-from word [] name rest e = absurd cc
behind_colon-from word (b ∷ bs) name rest e =
    let both = cond_some (b == 58) (word, bs) (name, rest) e in
    let colon = eqb-true b 58 both.0 in
    (ap (λ (x : List ℕ × List ℕ). x.0) both.1, rw colon (ap (λ (x : List ℕ × List ℕ). 58 ∷ x.1) both.1))

-- what stands before the colon
pub record SpellsName (bytes name middle rest : List ℕ) : Type 0 where
  pub blank : IsBlank middle
  pub named : IsName name
  pub parts : bytes ≡ name ++ (middle ++ 58 ∷ rest)

name_from-parts : (word behind middle more name rest : List ℕ) → AllAre is_name_byte word
    → IsPrefix behind middle more → is_name word ≡ true → behind_colon word more ≡ Some (name, rest)
    → SpellsName (word ++ behind) name middle rest
name_from-parts word behind middle more name rest all prefix named e =
    let both = behind_colon-from word more name rest e in
    record {
      blank = prefix.blank;
      named = subst IsName both.0 (IsName-from word all named);
      parts = rw (prefix.parts, both.0, both.1) refl;
    }

pub name_from : (bytes name rest : List ℕ) → name_and_rest bytes ≡ Some (name, rest)
    → (middle : List ℕ) × SpellsName bytes name middle rest
unfolding name_and_rest
name_from bytes name rest e =
    let n = prefix_len is_name_byte bytes in
    let behind = drop n bytes in
    let both =
    cond_option (is_name (take n bytes)) (behind_colon (take n bytes) (after_blanks behind))
    (name, rest) e in
    let middle = take (prefix_len is_blank behind) behind in
    let spelled : SpellsName (take n bytes ++ behind) name middle rest =
    name_from-parts (take n bytes) behind middle (after_blanks behind) name rest
    (run_passes is_name_byte bytes) (prefix_of behind) both.0 both.1 in
    (middle, subst (λ (x : List ℕ). SpellsName x name middle rest) (take-append-drop n bytes) spelled)

pub name_is : (bytes name middle rest : List ℕ) → SpellsName bytes name middle rest
    → name_and_rest bytes ≡ Some (name, rest)
unfolding name_and_rest
name_is bytes name middle rest spelled =
    let more = middle ++ 58 ∷ rest in
    let n : prefix_len is_name_byte (name ++ more) ≡ length name =
    run_is is_name_byte name more (AllAre-name name spelled.named)
    (Stops-name middle rest spelled.blank) in
    let behind : after_blanks more ≡ 58 ∷ rest = after_blanks-is middle (58 ∷ rest) spelled.blank refl in
    rw (
      spelled.parts,
      n,
      take_at name more (length name) refl,
      drop_at name more (length name) refl,
      is_name-is name spelled.named,
      behind,
    )
    refl

-- ---- bodies

BeginsStart-by : (bytes more : List ℕ) → bytes ≡ codes "start" ++ more → is_empty_or_blank more ≡ true
    → BeginsStart bytes
BeginsStart-by bytes [] parts e = inl parts
BeginsStart-by bytes (b ∷ more) parts e = inr (b, more, e, parts)

BeginsStart-from : (bytes : List ℕ) → begins_start bytes ≡ true → BeginsStart bytes
BeginsStart-from bytes e =
    let both = and_parts (bytes_eq (take 5 bytes) (codes "start")) (is_empty_or_blank (drop 5 bytes)) e in
    let prefix : take 5 bytes ≡ codes "start" = (bytes_eq-Decides (take 5 bytes) (codes "start")).0 both.0 in
    BeginsStart-by bytes (drop 5 bytes)
    (sym (take-append-drop 5 bytes) ∙ ap (λ (x : List ℕ). x ++ drop 5 bytes) prefix) both.1

begins_start-is : (bytes : List ℕ) → BeginsStart bytes → begins_start bytes ≡ true
begins_start-is bytes (inl alone) = rw alone refl
begins_start-is bytes (inr (b, more, blank, parts)) = rw parts blank

is_body-from : (bytes : List ℕ) → is_body bytes ≡ true
    → (bytes ≢ []) × (bytes ≢ codes "finish") × (BeginsStart bytes → ⊥)
is_body-from bytes e =
    let none =
    or_parts (length bytes == 0 || bytes_eq bytes (codes "finish")) (begins_start bytes) (not-true _ e) in
    let two = or_parts (length bytes == 0) (bytes_eq bytes (codes "finish")) none.0 in (
      λ nil. true≢false (sym (ap (λ (x : List ℕ). length x == 0) nil) ∙ two.0),
      λ finish. true≢false (sym ((bytes_eq-Decides bytes (codes "finish")).1 finish) ∙ two.1),
      λ start. true≢false (sym (begins_start-is bytes start) ∙ none.1),
    )

is_body-is : (bytes : List ℕ) → bytes ≢ [] → bytes ≢ codes "finish" → (BeginsStart bytes → ⊥)
    → is_body bytes ≡ true
is_body-is bytes some finish start =
    not_from_false _ (or_from _ _
    (or_from _ _
    (false_from_ne_true (length bytes == 0) (λ e. some (nil_from_length bytes (eqb-true (length bytes) 0 e))))
    (false_from_ne_true (bytes_eq bytes (codes "finish"))
    (λ e. finish ((bytes_eq-Decides bytes (codes "finish")).0 e))))
    (false_from_ne_true (begins_start bytes) (λ e. start (BeginsStart-from bytes e))))

pub body_from : (rest body : List ℕ) → body_of rest ≡ Some body
    → (left : List ℕ) × (right : List ℕ) × IsMiddle rest left body right × IsAct body (Whole body)
unfolding body_of
body_from rest body e =
    let found = before_blanks (after_blanks rest) in
    let both = cond_some (is_body found) found body e in
    let good = is_body-from found both.0 in
    let middle = middle_of rest in
    subst (λ (x : List ℕ). (left : List ℕ) × (right : List ℕ) × IsMiddle rest left x right
    × IsAct x (Whole x))
    both.1
    (middle.0, middle.1, middle.2, (middle.2.trimmed good.0, good.1, good.2, refl))

pub body_is : (left rest right body : List ℕ) → IsBlank left → IsBlank right → IsAct rest (Whole body)
    → body_of (left ++ (rest ++ right)) ≡ Some body
unfolding body_of
body_is left rest right body left_blank right_blank asks =
    let found : before_blanks (after_blanks (left ++ (rest ++ right))) ≡ rest =
    middle-is left rest right left_blank asks.0 right_blank in
    let some : rest ≢ [] = λ none. absurd cc in
    rw (found, is_body-is rest some asks.1 asks.2) (ap Some (sym asks.3))

-- ---- lines

-- what is read of a piece that spells a line
pub record ReadsAct (piece name : List ℕ) (act : Act) : Type 0 where
  pub rest : List ℕ
  pub body : List ℕ
  pub not_skipped : is_skipped piece ≡ false
  pub name_read : name_and_rest (after_blanks piece) ≡ Some (name, rest)
  pub body_read : body_of rest ≡ Some body
  pub whole : act ≡ Whole body

pub SpellsAct-from : (piece name rest body : List ℕ) → name_and_rest (after_blanks piece) ≡ Some (name, rest)
    → body_of rest ≡ Some body → SpellsAct piece name (Whole body)
SpellsAct-from piece name rest body name_read body_read =
    let prefix = prefix_of piece in
    let spelled = name_from (after_blanks piece) name rest name_read in
    let found = body_from rest body body_read in
    record {
      before = take (prefix_len is_blank piece) piece;
      middle = spelled.0;
      left = found.0;
      rest = body;
      right = found.1;
      blanks = (prefix.blank, spelled.1.blank, found.2.left_blank, found.2.right_blank);
      named = spelled.1.named;
      asks = found.3;
      whole = prefix.parts ∙ ap (λ (x : List ℕ). take (prefix_len is_blank piece) piece ++ x)
          (spelled.1.parts ∙ ap (λ (x : List ℕ). name ++ (spelled.0 ++ 58 ∷ x)) found.2.parts);
    }

-- a name ends the blanks before it, and begins no comment
Stops-named : (name more : List ℕ) → IsName name → StopsAt is_blank (name ++ more)
Stops-named [] more named = absurd named
Stops-named (b ∷ bs) more named = small_is_no_blank b named.0

named_is_no_comment : (name more : List ℕ) → IsName name → is_empty_or_comment (name ++ more) ≡ false
named_is_no_comment [] more named = absurd named
named_is_no_comment (b ∷ bs) more named = small_is_no_comment b named.0

pub reads_act : (piece name : List ℕ) (act : Act) → SpellsAct piece name act → ReadsAct piece name act
reads_act piece name (Whole body) spelled =
    let rest = spelled.left ++ (spelled.rest ++ spelled.right) in
    let more = spelled.middle ++ 58 ∷ rest in
    let behind : after_blanks piece ≡ name ++ more =
    ap after_blanks spelled.whole
    ∙ after_blanks-is spelled.before (name ++ more) spelled.blanks.0
    (Stops-named name more spelled.named) in
    record {
      rest = rest;
      body = body;
      not_skipped = ap is_empty_or_comment behind ∙ named_is_no_comment name more spelled.named;
      name_read =
          name_is (after_blanks piece) name spelled.middle rest (record {
            blank = spelled.blanks.1;
            named = spelled.named;
            parts = behind;
          });
      body_read =
          body_is spelled.left spelled.rest spelled.right body spelled.blanks.2 spelled.blanks.3 spelled.asks;
      whole = refl;
    }
