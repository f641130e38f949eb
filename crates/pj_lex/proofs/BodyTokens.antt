-- The tokens of a body, one behind the other, and the offset where they break.
use Rattle.std.proofs.Common.{◌≡◌, ℕ, false, eqb, ◌+◌, ◌-◌, ◌<◌, ◌≤◌, List, [], ◌∷◌, ◌++◌}
use Rattle.std.proofs.Common.{Ok, Err, length, take, refl, sym, ap, subst, ◌∙◌, arith}
use Rattle.std.specs.List.{prefix_len}
use Rattle.std.proofs.lemmas.Bool.Decides.{nat_tests}
use Rattle.std.proofs.lemmas.List.{append-nil, length-append, take-append-drop}
use Rattle.pj_lex.specs.declared.token.Token.{Token}
use Rattle.pj_lex.specs.declared.token.TokenKind.{TokenKind}
use Rattle.pj_lex.specs.Bytes.{is_blank, IsBlank, after_blanks}
use Rattle.pj_lex.specs.Tokens.{StopsAt, IsFirst, Lead, BreaksAt}
use Rattle.pj_lex.specs.TokenReading.{token_at}
use Rattle.pj_lex.specs.BodyReading.{BreaksFrom}
use Rattle.pj_lex.proofs.TokenBytes.{run_passes, run_stops}
use Rattle.pj_lex.proofs.TokenPrefix.{IsPrefix, IsStuck, IsRead, token_is_read, BeginsToken, begins_token}

-- ---- blanks

-- the blanks at the start
abbrev pub blanks_of : List ℕ → List ℕ
blanks_of bytes = take (prefix_len is_blank bytes) bytes

-- the blanks at the start, and what is behind them
pub blanks-whole : (bytes : List ℕ) → bytes ≡ blanks_of bytes ++ after_blanks bytes
unfolding after_blanks
blanks-whole bytes = sym (take-append-drop (prefix_len is_blank bytes) bytes)

-- no blank is behind the blanks at the start
blanks-stop : (bytes : List ℕ) → StopsAt is_blank (after_blanks bytes)
unfolding after_blanks
blanks-stop bytes = run_stops is_blank bytes

-- how many bytes these are
pub blanks-length : (bytes : List ℕ) → length bytes ≡ length (blanks_of bytes) + length (after_blanks bytes)
blanks-length bytes = ap length (blanks-whole bytes) ∙ length-append (blanks_of bytes) (after_blanks bytes)

-- nothing but blanks
pub all_blank : (bytes : List ℕ) → after_blanks bytes ≡ [] → IsBlank bytes
all_blank bytes e =
    let is : blanks_of bytes ≡ bytes =
    sym (append-nil (blanks_of bytes)) ∙ ap (λ (x : List ℕ). blanks_of bytes ++ x) (sym e)
    ∙ sym (blanks-whole bytes) in
    subst (λ (x : List ℕ). IsBlank x) is (run_passes is_blank bytes)

-- something else
pub not_all_blank : (bytes behind : List ℕ) → behind ≡ after_blanks bytes → eqb (length behind) 0 ≡ false
    → 0 < length (after_blanks bytes)
not_all_blank bytes behind is some = rw (← is) (grind (arith, nat_tests))

-- ---- what is read behind the blanks

-- what is read of bytes that no blank begins, if there are any, stands there
is_read : (bytes : List ℕ) → 0 < length bytes → StopsAt is_blank bytes → IsRead bytes (token_at bytes)
is_read [] some stops = absurd (omega arith)
is_read (b ∷ bs) some stops = token_is_read b bs stops

-- a token that is read behind the blanks stands there
pub prefix_is_read : (bytes behind : List ℕ) (kind : TokenKind) → 0 < length (after_blanks bytes)
    → token_at (after_blanks bytes) ≡ Ok (kind, behind) → IsPrefix (after_blanks bytes) kind behind
prefix_is_read bytes behind kind some e =
    subst (IsRead (after_blanks bytes)) e (is_read (after_blanks bytes) some (blanks-stop bytes))

-- what is read as bad behind the blanks is bad
pub bad_is_read : (bytes stuck : List ℕ) → 0 < length (after_blanks bytes)
    → token_at (after_blanks bytes) ≡ Err stuck → IsStuck (after_blanks bytes) stuck
bad_is_read bytes stuck some e =
    subst (IsRead (after_blanks bytes)) e (is_read (after_blanks bytes) some (blanks-stop bytes))

-- a token at the start and the bytes behind it are as long as the whole
pub prefix-length : (bytes behind : List ℕ) (kind : TokenKind) (prefix : IsPrefix bytes kind behind)
    → length bytes ≡ length prefix.text + length behind
prefix-length bytes behind kind prefix = ap length prefix.whole ∙ length-append prefix.text behind

-- offsets by how many bytes are left of a body of this size
module _ (size : ℕ) (bytes : List ℕ) (within : length bytes ≤ size) where
  -- a token that is read is first
  pub first_is_read : (kind : TokenKind) (behind : List ℕ) → 0 < length (after_blanks bytes)
      → token_at (after_blanks bytes) ≡ Ok (kind, behind)
      → IsFirst (size - length bytes) bytes
      (record { kind = kind; at = size - length (after_blanks bytes); end = size - length behind }) behind
  first_is_read kind behind some e =
      let prefix = prefix_is_read bytes behind kind some e in
      record {
        text = prefix.text;
        stands = record {
          blanks = blanks_of bytes;
          whole = blanks-whole bytes ∙ ap (λ (x : List ℕ). blanks_of bytes ++ x) prefix.whole;
          blank = run_passes is_blank bytes;
          spelled = prefix.spelled;
          ended = prefix.ended;
        };
        at = omega (arith, blanks-length bytes);
        end = omega (arith, blanks-length bytes, prefix-length (after_blanks bytes) behind kind prefix);
      }

  -- the body breaks where what is read is bad
  pub break_is_read : (stuck : List ℕ) → 0 < length (after_blanks bytes)
      → token_at (after_blanks bytes) ≡ Err stuck
      → BreaksFrom (size - length bytes) bytes (size - length stuck)
  break_is_read stuck some e =
      let bad = bad_is_read bytes stuck some e in
      record {
        blanks = blanks_of bytes;
        rest = after_blanks bytes;
        whole = blanks-whole bytes;
        blank = run_passes is_blank bytes;
        offset = bad.offset;
        bad = bad.bad;
        position = omega (arith, blanks-length bytes, bad.position);
      }

  -- the bytes behind a token that is read fit the body
  pub behind-within : (kind : TokenKind) (behind : List ℕ) → 0 < length (after_blanks bytes)
      → token_at (after_blanks bytes) ≡ Ok (kind, behind) → length behind ≤ size
  behind-within kind behind some e =
      let prefix = prefix_is_read bytes behind kind some e in
      omega (arith, blanks-length bytes, prefix-length (after_blanks bytes) behind kind prefix)

  -- the bytes from a bad token on fit the body
  pub stuck-within : (stuck : List ℕ) → 0 < length (after_blanks bytes)
      → token_at (after_blanks bytes) ≡ Err stuck → length stuck ≤ size
  stuck-within stuck some e =
      let bad = bad_is_read bytes stuck some e in
      omega (arith, blanks-length bytes, bad.position)

-- ---- one token more

-- blanks, token and the bytes behind it are as long as the whole
first-length : (here : ℕ) (bytes more : List ℕ) (token : Token) (first : IsFirst here bytes token more)
    → length bytes ≡ length first.stands.blanks + (length first.text + length more)
first-length here bytes more token first =
    ap length first.stands.whole ∙ length-append first.stands.blanks (first.text ++ more)
    ∙ ap (λ (n : ℕ). length first.stands.blanks + n) (length-append first.text more)

-- a token has bytes
pub some_bytes : (text : List ℕ) → BeginsToken text → 0 < length text
some_bytes [] h = absurd h
some_bytes (b ∷ bs) h = omega arith

-- the bytes behind a token are fewer
pub first-shorter : (here : ℕ) (bytes more : List ℕ) (token : Token) → IsFirst here bytes token more
    → length more < length bytes
first-shorter here bytes more token first =
    omega (
      arith,
      first-length here bytes more token first,
      some_bytes first.text (begins_token token.kind first.text first.stands.spelled),
    )

-- a token ends where the bytes behind it begin
pub first-end : (size : ℕ) (bytes more : List ℕ) (token : Token) → length bytes ≤ size
    → IsFirst (size - length bytes) bytes token more → token.end ≡ size - length more
first-end size bytes more token within first =
    omega (arith, first.at, first.end, first-length (size - length bytes) bytes more token first)

-- one token more behind those that lead to it
pub Lead-push : (tokens : List Token) (here there : ℕ) (bytes rest more : List ℕ) (token : Token)
    → Lead here bytes tokens there rest → IsFirst there rest token more
    → Lead here bytes (tokens ++ token ∷ []) token.end more
Lead-push [] here there bytes rest more token (position, same) first = (
  more,
  subst (λ (b : List ℕ). IsFirst here b token more) same
      (subst (λ (n : ℕ). IsFirst n rest token more) position first),
  (refl, refl),
)
Lead-push (t ∷ ts) here there bytes rest more token (behind, one, others) first =
    (behind, one, Lead-push ts t.end there behind rest more token others first)

-- offsets by how many bytes are left of the body
pub Lead-next : (body rest more : List ℕ) (tokens : List Token) (token : Token) → length rest ≤ length body
    → Lead 0 body tokens (length body - length rest) rest
    → IsFirst (length body - length rest) rest token more
    → Lead 0 body (tokens ++ token ∷ []) (length body - length more) more
Lead-next body rest more tokens token within lead first =
    subst (λ (n : ℕ). Lead 0 body (tokens ++ token ∷ []) n more)
    (first-end (length body) rest more token within first)
    (Lead-push tokens 0 (length body - length rest) body rest more token lead first)

-- the break behind some tokens is the body's
pub Lead-breaks : (body rest : List ℕ) (tokens : List Token) (there at : ℕ) → Lead 0 body tokens there rest
    → BreaksFrom there rest at → BreaksAt body at
Lead-breaks body rest tokens there at lead breaks =
    record {
      tokens = tokens;
      there = there;
      rest = rest;
      prefix = lead;
      blanks = breaks.blanks;
      bytes = breaks.rest;
      whole = breaks.whole;
      blank = breaks.blank;
      offset = breaks.offset;
      bad = breaks.bad;
      position = breaks.position;
    }
