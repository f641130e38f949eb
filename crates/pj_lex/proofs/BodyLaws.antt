-- A body has one list of tokens, or it has one offset where it breaks.
use Rattle.std.proofs.Common.{◌≡◌, ℕ, zero, suc, ◌+◌, ◌-◌, ◌<◌, ◌⊎◌, inl, inr, List, [], ◌∷◌, ◌++◌}
use Rattle.std.proofs.Common.{Option, Some, None, Ok, Err, length, refl, sym, ap, subst, ◌∙◌, arith}
use Rattle.std.proofs.lemmas.List.{append-nil, length-append, drop_at}
use Rattle.std.proofs.lemmas.Option.{none-some}
use Rattle.pj_lex.specs.declared.token.Token.{Token}
use Rattle.pj_lex.specs.declared.token.TokenKind.{TokenKind}
use Rattle.pj_lex.specs.Bytes.{is_blank, IsBlank, after_blanks}
use Rattle.pj_lex.specs.Tokens.{StopsAt, StandsFirst, IsFirst, Lead, AreTokens, BreaksAt}
use Rattle.pj_lex.specs.Laws.{OneList, TokensOrBreak, NoTokensWithABreak, OneBreak}
use Rattle.pj_lex.specs.TokenReading.{Found, Read, token_at}
use Rattle.pj_lex.specs.BodyReading.{BreaksFrom}
use Rattle.pj_lex.proofs.BodyTokens.{all_blank, first_is_read, break_is_read, first-shorter, Lead-breaks}
use Rattle.pj_lex.proofs.TokenBytes.{run_is}
use Rattle.pj_lex.proofs.TokenPrefix.{found, token_at-only, token_at-bad, BeginsToken}
use Rattle.pj_lex.proofs.TokenPrefix.{begins_token, begins_bad}

-- ---- the bytes behind the blanks

-- behind blanks with which the bytes begin, and no further one, is the rest
after_blanks-only : (bytes blanks rest : List ℕ) → bytes ≡ blanks ++ rest → IsBlank blanks
    → StopsAt is_blank rest → after_blanks bytes ≡ rest
unfolding after_blanks
after_blanks-only bytes blanks rest whole all stops =
    ap after_blanks whole
    ∙ rw (run_is is_blank blanks rest all stops) (drop_at blanks rest (length blanks) refl)

-- a token begins with no blank
begins-stops : (bytes : List ℕ) → BeginsToken bytes → StopsAt is_blank bytes
begins-stops [] begins = tt
begins-stops (b ∷ bs) begins = begins

-- what begins as a token does so with more bytes behind it
pub begins-append : (text more : List ℕ) → BeginsToken text → BeginsToken (text ++ more)
begins-append [] more begins = absurd begins
begins-append (b ∷ bs) more begins = begins

-- behind the blanks before a token, or before a break, are its bytes
pub behind_blanks : (bytes blanks rest : List ℕ) → bytes ≡ blanks ++ rest → IsBlank blanks → BeginsToken rest
    → after_blanks bytes ≡ rest
behind_blanks bytes blanks rest whole all begins =
    after_blanks-only bytes blanks rest whole all (begins-stops rest begins)

-- nothing is behind blanks alone
pub blank-only : (bytes : List ℕ) → IsBlank bytes → after_blanks bytes ≡ []
blank-only bytes all = after_blanks-only bytes bytes [] (sym (append-nil bytes)) all tt

-- ---- a token that stands first

-- what stands first is behind the blanks at the start
pub stands-behind : (bytes own more : List ℕ) (kind : TokenKind) → StandsFirst bytes kind own more
    → after_blanks bytes ≡ own ++ more
stands-behind bytes own more kind s =
    behind_blanks bytes s.blanks (own ++ more) s.whole s.blank
    (begins-append own more (begins_token kind own s.spelled))

module _ (here : ℕ) (bytes more : List ℕ) (token : Token) (first : IsFirst here bytes token more) where
  first-behind : after_blanks bytes ≡ first.text ++ more
  first-behind = stands-behind bytes first.text more token.kind first.stands

  -- it is what is read there
  first-reads : token_at (after_blanks bytes) ≡ found token.kind more
  first-reads =
      ap token_at first-behind
      ∙ token_at-only token.kind first.text more first.stands.spelled first.stands.ended

  -- its offset is where the blanks at the start end
  first-at : token.at + length (after_blanks bytes) ≡ here + length bytes
  first-at =
      omega (
        arith,
        first.at,
        ap length first-behind,
        ap length first.stands.whole,
        length-append first.stands.blanks (first.text ++ more),
      )

  -- its end is where the bytes behind it begin
  first-end : token.end + length more ≡ here + length bytes
  first-end = omega (arith, first-at, first.end, ap length first-behind, length-append first.text more)

-- one token stands first
kinds_one : (kind kind' : TokenKind) (more more' : List ℕ) → found kind more ≡ found kind' more'
    → (kind ≡ kind') × (more ≡ more')
kinds_one kind kind' more more' e =
    let both : ◌≡◌ {A = Found} (kind, more) (kind', more') = cc in
    (ap (λ (x : Found). x.0) both, ap (λ (x : Found). x.1) both)

-- a token by its parts
token : TokenKind → ℕ → ℕ → Token
token kind at end = record { kind = kind; at = at; end = end }

-- tokens with equal parts are equal
token_one : (a b : Token) → a.kind ≡ b.kind → a.at ≡ b.at → a.end ≡ b.end → a ≡ b
unfolding token
token_one a b kind at end =
    ap (λ (k : TokenKind). token k a.at a.end) kind ∙ ap (λ (n : ℕ). token b.kind n a.end) at
    ∙ ap (λ (n : ℕ). token b.kind b.at n) end

-- two tokens that stand first are one, and so are the bytes behind them
first_one : (here : ℕ) (bytes more more' : List ℕ) (a b : Token) → IsFirst here bytes a more
    → IsFirst here bytes b more' → (a ≡ b) × (more ≡ more')
first_one here bytes more more' a b first other =
    let read =
    kinds_one a.kind b.kind more more'
    (sym (first-reads here bytes more a first) ∙ first-reads here bytes more' b other) in
    let at : a.at ≡ b.at =
    omega (arith, first-at here bytes more a first, first-at here bytes more' b other) in
    let end : a.end ≡ b.end =
    omega (
      arith,
      first-end here bytes more a first,
      first-end here bytes more' b other,
      ap length read.1,
    ) in
    (token_one a b read.0 at end, read.1)

-- ---- what is behind the tokens

-- blanks alone, or a break at this offset
abbrev IsEnd : ℕ → List ℕ → Option ℕ → Type 0
IsEnd there rest None = IsBlank rest
IsEnd there rest (Some at) = BreaksFrom there rest at

-- the bytes from a break on begin with no blank
breaks-begins : (here : ℕ) (bytes : List ℕ) (at : ℕ) (breaks : BreaksFrom here bytes at)
    → BeginsToken breaks.rest
breaks-begins here bytes at breaks = begins_bad breaks.rest breaks.offset breaks.bad

-- these bytes are behind the blanks at the start
breaks-behind : (here : ℕ) (bytes : List ℕ) (at : ℕ) (breaks : BreaksFrom here bytes at)
    → after_blanks bytes ≡ breaks.rest
breaks-behind here bytes at breaks =
    behind_blanks bytes breaks.blanks breaks.rest breaks.whole breaks.blank
    (breaks-begins here bytes at breaks)

-- the bytes from the break on are read as bad
breaks-reads : (here : ℕ) (bytes : List ℕ) (at : ℕ) → BreaksFrom here bytes at
    → (stuck : List ℕ) × (token_at (after_blanks bytes) ≡ Err stuck)
    × (at + length stuck ≡ here + length bytes)
breaks-reads here bytes at breaks =
    let bad = token_at-bad breaks.rest breaks.offset breaks.bad in (
      bad.0,
      ap token_at (breaks-behind here bytes at breaks) ∙ bad.1,
      omega (arith, bad.2, breaks.position, ap length breaks.whole, length-append breaks.blanks breaks.rest),
    )

-- blanks alone have nothing with which a token or a break begins
no_begin : (bytes rest : List ℕ) → IsBlank bytes → after_blanks bytes ≡ rest → BeginsToken rest → ⊥
no_begin bytes rest blank is begins = subst BeginsToken (sym is ∙ blank-only bytes blank) begins

-- where the tokens end no token stands
end_no_first : (here : ℕ) (bytes more : List ℕ) (end : Option ℕ) (token : Token) → IsEnd here bytes end
    → IsFirst here bytes token more → ⊥
end_no_first here bytes more None token blank first =
    no_begin bytes (first.text ++ more) blank (first-behind here bytes more token first)
    (begins-append first.text more (begins_token token.kind first.text first.stands.spelled))
end_no_first here bytes more (Some at) token breaks first =
    let bad = breaks-reads here bytes at breaks in
    let both : found token.kind more ≡ Err bad.0 = sym (first-reads here bytes more token first) ∙ bad.1 in
    absurd cc

-- the bytes break at one offset
break_one : (here : ℕ) (bytes : List ℕ) (a b : ℕ) → BreaksFrom here bytes a → BreaksFrom here bytes b → a ≡ b
break_one here bytes a b breaks other =
    let bad = breaks-reads here bytes a breaks in
    let too = breaks-reads here bytes b other in
    let both : ◌≡◌ {A = Read} (Err bad.0) (Err too.0) = sym bad.1 ∙ too.1 in
    let stuck : bad.0 ≡ too.0 = cc in
    omega (arith, bad.2, too.2, ap length stuck)

-- the tokens end in one way
end_one : (here : ℕ) (bytes : List ℕ) (a b : Option ℕ) → IsEnd here bytes a → IsEnd here bytes b → a ≡ b
end_one here bytes None None blank other = refl
end_one here bytes None (Some b) blank breaks =
    absurd (no_begin bytes breaks.rest blank (breaks-behind here bytes b breaks)
    (breaks-begins here bytes b breaks))
end_one here bytes (Some a) None breaks blank =
    absurd (no_begin bytes breaks.rest blank (breaks-behind here bytes a breaks)
    (breaks-begins here bytes a breaks))
end_one here bytes (Some a) (Some b) breaks other =
    ap (λ (n : ℕ). Some n) (break_one here bytes a b breaks other)

-- ---- tokens up to an end

-- the tokens from here on, and what is behind them
abbrev Has : ℕ → List ℕ → List Token → Option ℕ → Type 0
Has here bytes tokens end =
    (there : ℕ) × (rest : List ℕ) × Lead here bytes tokens there rest × IsEnd there rest end

-- an end is here, or a token stands first
abbrev Begins : ℕ → List ℕ → Type 0
Begins here bytes =
    ((end : Option ℕ) × IsEnd here bytes end)
    ⊎ ((token : Token) × (more : List ℕ) × IsFirst here bytes token more)

-- so it is by what is read behind the blanks
begins-read : (here : ℕ) (bytes : List ℕ) (read : Read) → 0 < length (after_blanks bytes)
    → token_at (after_blanks bytes) ≡ read → Begins here bytes
begins-read here bytes (Ok (kind, behind)) some e =
    let position : here + length bytes - length bytes ≡ here = omega arith in
    let first = first_is_read (here + length bytes) bytes (omega arith) kind behind some e in
    inr (
      record {
        kind = kind;
        at = here + length bytes - length (after_blanks bytes);
        end = here + length bytes - length behind;
      },
      behind,
      rw position at first,
    )
begins-read here bytes (Err stuck) some e =
    let position : here + length bytes - length bytes ≡ here = omega arith in
    let breaks = break_is_read (here + length bytes) bytes (omega arith) stuck some e in
    inl (Some (here + length bytes - length stuck), rw position at breaks)

-- and by the bytes behind the blanks
begins-by : (here : ℕ) (bytes behind : List ℕ) → after_blanks bytes ≡ behind → Begins here bytes
begins-by here bytes [] e = inl (None, all_blank bytes e)
begins-by here bytes (b ∷ bs) e =
    begins-read here bytes (token_at (after_blanks bytes)) (rw e (omega arith)) refl

-- bytes have some tokens, and an end behind them
some_has : (n here : ℕ) (bytes : List ℕ) → length bytes < n
    → (tokens : List Token) × (end : Option ℕ) × Has here bytes tokens end
some_has zero here bytes less = absurd (omega arith)
some_has (suc n) here bytes less =
    elim (begins-by here bytes (after_blanks bytes) refl) [
      | inl (end, is) ↦ ([], end, (here, bytes, (refl, refl), is))
      | inr (t, more, first) ↦
          let shorter = first-shorter here bytes more t first in
          let (ts, end, (there, rest, lead, is)) = some_has n t.end more (omega arith) in
          (t ∷ ts, end, (there, rest, (more, first, lead), is))
    ]

-- ---- the laws

-- behind no tokens the end is here
has-end : (here : ℕ) (bytes : List ℕ) (end : Option ℕ) → Has here bytes [] end → IsEnd here bytes end
has-end here bytes end (there, rest, (position, same), is) =
    subst (λ (n : ℕ). IsEnd n bytes end) position (subst (λ (r : List ℕ). IsEnd there r end) same is)

-- one list of tokens, and one end
one : (here : ℕ) (bytes : List ℕ) (xs ys : List Token) (a b : Option ℕ) → Has here bytes xs a
    → Has here bytes ys b → (xs ≡ ys) × (a ≡ b)
one here bytes [] [] a b has other =
    (refl, end_one here bytes a b (has-end here bytes a has) (has-end here bytes b other))
one here bytes [] (y ∷ ys) a b has (there, rest, (more, first, lead), is) =
    absurd (end_no_first here bytes more a y (has-end here bytes a has) first)
one here bytes (x ∷ xs) [] a b (there, rest, (more, first, lead), is) other =
    absurd (end_no_first here bytes more b x (has-end here bytes b other) first)
one here bytes (x ∷ xs) (y ∷ ys) a b (there, rest, (more, first, lead), is)
    (there', rest', (more', first', lead'), is') =
    let same = first_one here bytes more more' x y first first' in
    let moved : Lead x.end more ys there' rest' = rw (same.0, same.1) lead' in
    let others = one x.end more xs ys a b (there, rest, lead, is) (there', rest', moved, is') in
    (cc, others.1)

-- a body with its tokens has them, and blanks behind
has-tokens : (body : List ℕ) (tokens : List Token) → AreTokens body tokens → Has 0 body tokens None
has-tokens body tokens (there, rest, lead, blank) = (there, rest, lead, blank)

-- a body that breaks has tokens, and the break behind
has-break : (body : List ℕ) (at : ℕ) (breaks : BreaksAt body at) → Has 0 body breaks.tokens (Some at)
has-break body at breaks = (
  breaks.there,
  breaks.rest,
  breaks.prefix,
  record {
    blanks = breaks.blanks;
    rest = breaks.bytes;
    whole = breaks.whole;
    blank = breaks.blank;
    offset = breaks.offset;
    bad = breaks.bad;
    position = breaks.position;
  },
)

-- a body has its tokens in one way
pub one_list : OneList
one_list body a b are other = (one 0 body a b None None (has-tokens body a are) (has-tokens body b other)).0

-- a body has tokens, or it breaks
pub tokens_or_break : TokensOrBreak
tokens_or_break body = by_end (some_has (suc (length body)) 0 body (omega arith))
  where
    by_end : (tokens : List Token) × (end : Option ℕ) × Has 0 body tokens end
        → ((tokens : List Token) × AreTokens body tokens) ⊎ ((at : ℕ) × BreaksAt body at)
    by_end (tokens, None, (there, rest, lead, blank)) = inl (tokens, (there, rest, lead, blank))
    by_end (tokens, Some at, (there, rest, lead, breaks)) =
        inr (at, Lead-breaks body rest tokens there at lead breaks)

-- a body that breaks has no tokens
pub no_tokens_with_a_break : NoTokensWithABreak
no_tokens_with_a_break body tokens at are breaks =
    none-some at (one 0 body tokens breaks.tokens None (Some at) (has-tokens body tokens are)
    (has-break body at breaks)).1

-- a body breaks at one offset
pub one_break : OneBreak
one_break body a b breaks other =
    let same =
    (one 0 body breaks.tokens other.tokens (Some a) (Some b) (has-break body a breaks)
    (has-break body b other)).1 in
    cc
