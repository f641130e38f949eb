-- The token at the start: what is found is spelled there, what is bad is so there, and the other way round.
use Rattle.std.proofs.Common.{◌≡◌, ◌≢◌, ℕ, ◌+◌, ◌^◌, ◌<◌, ◌≤◌, true, false, ltb, eqb, List, [], ◌∷◌}
use Rattle.std.proofs.Common.{◌++◌, Option, Some, None, Ok, Err, Contains, length, take, drop}
use Rattle.std.proofs.Common.{refl, sym, ap, subst, ◌∙◌, ◌⊎◌, inl, inr, arith, append_assoc}
use Rattle.std.specs.List.{prefix_len, AllByRecursion}
use Rattle.std.proofs.lemmas.Bool.{ltb-true, lt-ltb, le-ltb, eqb-true}
use Rattle.std.proofs.lemmas.Bool.Decides.{nat_tests}
use Rattle.std.proofs.lemmas.List.Elements.{All-contains, All-from_recursion}
use Rattle.std.proofs.lemmas.List.{length-append, take_at, drop_at, take-append-drop}
use Rattle.pj_lex.specs.declared.token.Symbol.{Symbol}
use Rattle.pj_lex.specs.declared.token.Symbol.TheVariants as symbols
use Rattle.pj_lex.specs.declared.token.TokenKind.{TokenKind}
use Rattle.pj_lex.specs.declared.token.TokenKind.TheVariants as kinds
use Rattle.pj_lex.specs.Bytes.{is_blank, is_digit, begins_word, is_word_byte, AllAre}
use Rattle.pj_lex.specs.Tokens.{IsWord, IsNumber, digits_value, spellings, ArePieces, Spells, StopsAt}
use Rattle.pj_lex.specs.Tokens.{Ends, BeginsWord, IsBadNumber, IsTextWithoutEnd, IsNoToken, IsBad}
use Rattle.pj_lex.specs.TokenReading.{Found, Read, goes_on, word_at, number_at, FoundSymbol, symbol_at}
use Rattle.pj_lex.specs.TokenReading.{Pieces, Closed, BadEscape, NoEnd, pieces_at, text_of}
use Rattle.pj_lex.specs.TokenReading.{symbol_token, plain_at, found_or_bad, token_at}
use Rattle.pj_lex.proofs.TokenBytes.{cases, run-yes, run_passes, run_stops, run_is}
use Rattle.pj_lex.proofs.TokenBytes.{word_isnt_blank, digit_isnt_blank, digit_begins_no_word}
use Rattle.pj_lex.proofs.TokenBytes.{begins_is_word_byte, stops_digits}
use Rattle.pj_lex.proofs.TokenNumbers.{not_below}
use Rattle.pj_lex.proofs.SymbolPrefix.{symbol_at-found, symbol_at-none, symbol_at-only, no_symbol}
use Rattle.pj_lex.proofs.TextPieces.{isnt, AreRead, pieces_are_read, pieces_at-closed}
use Rattle.pj_lex.proofs.TextPieces.{pieces_at-bad, pieces_at-no_end}

-- what stands at the start is a token of this kind, with these bytes behind it
pub record IsPrefix (bytes : List ℕ) (kind : TokenKind) (rest : List ℕ) : Type 0 where
  pub text : List ℕ
  pub whole : bytes ≡ text ++ rest
  pub spelled : Spells kind text
  pub ended : Ends kind text rest

-- what stands at the start is bad, and these are the bytes from its offset on
pub record IsStuck (bytes : List ℕ) (stuck : List ℕ) : Type 0 where
  pub offset : ℕ
  pub bad : IsBad bytes offset
  pub position : length bytes ≡ offset + length stuck

-- what is read of bytes that no blank begins
abbrev pub IsRead : List ℕ → Read → Type 0
IsRead bytes (Ok found) = IsPrefix bytes found.0 found.1
IsRead bytes (Err stuck) = IsStuck bytes stuck

-- ---- what is read

-- the whole is bad
stuck_here : (bytes : List ℕ) → IsBadNumber bytes ⊎ (IsTextWithoutEnd bytes ⊎ IsNoToken bytes)
    → IsStuck bytes bytes
stuck_here bytes bad = record { offset = 0; bad = inl (refl, bad); position = omega arith }

-- a word that is read stands there
word_is_read : (b : ℕ) (bs : List ℕ) → begins_word b ≡ true → IsRead (b ∷ bs) (Ok (word_at (b ∷ bs)))
unfolding word_at
word_is_read b bs begins =
    let n = prefix_len is_word_byte (b ∷ bs) in
    let word : IsWord (take n (b ∷ bs)) =
    rw (run-yes is_word_byte b bs (begins_is_word_byte b begins)) (begins, run_passes is_word_byte bs) in
    record {
      text = take n (b ∷ bs);
      whole = sym (take-append-drop n (b ∷ bs));
      spelled = word;
      ended = run_stops is_word_byte (b ∷ bs);
    }

-- no letter, digit or `_` is next
stops_there : (bytes : List ℕ) → goes_on bytes ≡ false → StopsAt is_word_byte bytes
stops_there [] e = tt
stops_there (b ∷ bs) e = e

-- a letter or `_` is next
begins_there : (bytes : List ℕ) → goes_on bytes ≡ true → StopsAt is_digit bytes → BeginsWord bytes
begins_there [] e stops = absurd cc
begins_there (b ∷ bs) e stops =
    elim (cases (begins_word b)) [
      | inl begins ↦ (b, bs, refl, begins)
      | inr not ↦ let none : is_word_byte b ≡ false = rw (not, stops) refl in absurd cc
    ]

-- the digits at the start are bad
bad_digits : (b : ℕ) (bs : List ℕ) → is_digit b ≡ true
    → (2 ^ 64 ≤ digits_value (take (prefix_len is_digit (b ∷ bs)) (b ∷ bs)))
    ⊎ BeginsWord (drop (prefix_len is_digit (b ∷ bs)) (b ∷ bs))
    → IsStuck (b ∷ bs) (b ∷ bs)
bad_digits b bs begins bad =
    let n = prefix_len is_digit (b ∷ bs) in
    let some : take n (b ∷ bs) ≢ [] = rw (run-yes is_digit b bs begins) (λ no. cc) in
    stuck_here (b ∷ bs)
    (inl (record {
      digits = take n (b ∷ bs);
      more = drop n (b ∷ bs);
      whole = sym (take-append-drop n (b ∷ bs));
      some = some;
      all = run_passes is_digit (b ∷ bs);
      stops = run_stops is_digit (b ∷ bs);
      bad = bad;
    }))

-- a number that is read stands there, or the digits are bad
number_is_read : (b : ℕ) (bs : List ℕ) → is_digit b ≡ true
    → IsRead (b ∷ bs) (found_or_bad (b ∷ bs) (number_at (b ∷ bs)))
unfolding number_at
number_is_read b bs begins =
    let n = prefix_len is_digit (b ∷ bs) in
    let text = take n (b ∷ bs) in
    let back = drop n (b ∷ bs) in
    let value = digits_value text in
    elim (cases (goes_on back)) [
      | inl touched ↦
          rw touched (bad_digits b bs begins (inr (begins_there back touched (run_stops is_digit (b ∷ bs)))))
      | inr alone ↦
          elim (cases (ltb value (2 ^ 64))) [
            | inl fits ↦
                let some : text ≢ [] = rw (run-yes is_digit b bs begins) (λ no. cc) in
                rw (alone, fits)
                (record {
                  text = text;
                  whole = sym (take-append-drop n (b ∷ bs));
                  spelled = (some, run_passes is_digit (b ∷ bs), refl, ltb-true value (2 ^ 64) fits);
                  ended = stops_there back alone;
                })
            | inr large ↦
                let too_large : 2 ^ 64 ≤ value =
                not_below value (2 ^ 64) (λ lt. let e = lt-ltb value (2 ^ 64) lt in cc) in
                rw (alone, large) (bad_digits b bs begins (inl too_large))
          ]
    ]

-- a symbol that is read stands there, or no token does
symbol_is_read : (b : ℕ) (bs : List ℕ) → is_blank b ≡ false → begins_word b ≡ false → is_digit b ≡ false
    → b ≢ 39 → (found : Option FoundSymbol) → symbol_at (b ∷ bs) ≡ found
    → IsRead (b ∷ bs) (found_or_bad (b ∷ bs) (symbol_token found))
symbol_is_read b bs blank word digit quote None e =
    stuck_here (b ∷ bs)
    (inr (inr (record {
      first = b;
      more = bs;
      whole = refl;
      blank = blank;
      word = word;
      digit = digit;
      quote = quote;
      symbol = symbol_at-none (b ∷ bs) e;
    })))
symbol_is_read b bs blank word digit quote (Some (s, rest)) e =
    let prefix = symbol_at-found (b ∷ bs) rest s e in
    record { text = prefix.text; whole = prefix.whole; spelled = prefix.spelled; ended = prefix.longest }

-- a text that is read stands there, or has a bad escape or no end
text_is_read : (bs : List ℕ) (read : Pieces) → AreRead bs read → IsRead (39 ∷ bs) (text_of (39 ∷ bs) read)
text_is_read bs (Closed text rest) (pieces, whole, are, stops) =
    record {
      text = 39 ∷ (pieces ++ 39 ∷ []);
      whole = ap (λ (x : List ℕ). 39 ∷ x) (whole ∙ sym (append_assoc pieces (39 ∷ []) rest));
      spelled = (pieces, refl, are);
      ended = stops;
    }
text_is_read bs (BadEscape stuck) (pieces, text, more, whole, at, are, none) =
    record {
      offset = 1 + length pieces;
      bad =
          inr (record {
            pieces = pieces;
            text = text;
            more = more;
            whole = ap (λ (x : List ℕ). 39 ∷ x) whole;
            spelled = are;
            unknown = none;
            before = refl;
          });
      position = omega (arith, ap length whole, ap length at, length-append pieces (92 ∷ more));
    }
text_is_read bs NoEnd (text, are) =
    stuck_here (39 ∷ bs) (inr (inl (record { pieces = bs; text = text; whole = refl; spelled = are })))

-- what is read where no quote is next stands there
plain_is_read : (b : ℕ) (bs : List ℕ) → is_blank b ≡ false → b ≢ 39
    → IsRead (b ∷ bs) (found_or_bad (b ∷ bs) (plain_at (b ∷ bs)))
unfolding plain_at
plain_is_read b bs blank quote =
    elim (cases (begins_word b)) [
      | inl word ↦ rw word (word_is_read b bs word)
      | inr no_word ↦
          elim (cases (is_digit b)) [
            | inl digit ↦ rw (no_word, digit) (number_is_read b bs digit)
            | inr no_digit ↦
                rw (no_word, no_digit)
                (symbol_is_read b bs blank no_word no_digit quote (symbol_at (b ∷ bs)) refl)
          ]
    ]

-- what is read at the start stands there
pub token_is_read : (b : ℕ) (bs : List ℕ) → is_blank b ≡ false → IsRead (b ∷ bs) (token_at (b ∷ bs))
unfolding token_at
token_is_read b bs blank =
    elim (cases (eqb b 39)) [
      | inl quote ↦ rw (eqb-true b 39 quote) (text_is_read bs (pieces_at bs) (pieces_are_read bs))
      | inr other ↦ rw other (plain_is_read b bs blank (λ same. let e : eqb b 39 ≡ true = rw same refl in cc))
    ]

-- ---- what stands there is read

-- this token, with these bytes behind it
abbrev pub found : TokenKind → List ℕ → Read
found kind rest = Ok (kind, rest)

-- a token that no quote begins is read as such
token_at-plain : (b : ℕ) (bs : List ℕ) (found : Option Found) → eqb b 39 ≡ false → plain_at (b ∷ bs) ≡ found
    → token_at (b ∷ bs) ≡ found_or_bad (b ∷ bs) found
unfolding token_at
token_at-plain b bs found quote e = rw (quote, e) refl

-- what begins a word is no quote
word_isnt_quote : (b : ℕ) → begins_word b ≡ true → eqb b 39 ≡ false
word_isnt_quote b e = grind (arith, nat_tests)

-- a digit is no quote
digit_isnt_quote : (b : ℕ) → is_digit b ≡ true → eqb b 39 ≡ false
digit_isnt_quote b e = grind (arith, nat_tests)

-- what begins a word is read as one
plain_at-word : (b : ℕ) (bs : List ℕ) → begins_word b ≡ true → plain_at (b ∷ bs) ≡ Some (word_at (b ∷ bs))
unfolding plain_at
plain_at-word b bs e = rw e refl

-- the word at the start is found
word_at-only : (text more : List ℕ) → AllAre is_word_byte text → StopsAt is_word_byte more
    → word_at (text ++ more) ≡ (kinds.Word, more)
unfolding word_at
word_at-only text more all stops =
    let n : prefix_len is_word_byte (text ++ more) ≡ length text = run_is is_word_byte text more all stops in
    rw (n, drop_at text more (length text) refl) refl

-- a word that stands there is read
word-only : (text more : List ℕ) → IsWord text → StopsAt is_word_byte more
    → token_at (text ++ more) ≡ found kinds.Word more
word-only [] more is stops = absurd is
word-only (b ∷ bs) more is stops =
    token_at-plain b (bs ++ more) _ (word_isnt_quote b is.0) (plain_at-word b (bs ++ more) is.0)
    ∙ ap (λ (x : Found). Ok x) (word_at-only (b ∷ bs) more (begins_is_word_byte b is.0, is.1) stops)

-- what begins with a digit is read as a number
plain_at-digit : (b : ℕ) (bs : List ℕ) → is_digit b ≡ true → plain_at (b ∷ bs) ≡ number_at (b ∷ bs)
unfolding plain_at
plain_at-digit b bs e = rw (digit_begins_no_word b e, e) refl

-- nothing goes on where a word stops
goes_on-not : (bytes : List ℕ) → StopsAt is_word_byte bytes → goes_on bytes ≡ false
goes_on-not [] h = refl
goes_on-not (b ∷ bs) h = h

-- the number at the start is found
number_at-only : (text more : List ℕ) → AllAre is_digit text → StopsAt is_word_byte more
    → digits_value text < 2 ^ 64 → number_at (text ++ more) ≡ Some (kinds.Number (digits_value text), more)
unfolding number_at
number_at-only text more all stops small =
    let n : prefix_len is_digit (text ++ more) ≡ length text =
    run_is is_digit text more all (stops_digits more stops) in
    let fits : ltb (digits_value text) (2 ^ 64) ≡ true = lt-ltb (digits_value text) (2 ^ 64) small in
    rw (
      n,
      take_at text more (length text) refl,
      drop_at text more (length text) refl,
      goes_on-not more stops,
      fits,
    ) refl

-- a number that stands there is read
number-only : (text more : List ℕ) (n : ℕ) → IsNumber text n → StopsAt is_word_byte more
    → token_at (text ++ more) ≡ found (kinds.Number n) more
number-only [] more n is stops = absurd (is.0 refl)
number-only (b ∷ bs) more n (some, all, value, small) stops =
    let fits : digits_value (b ∷ bs) < 2 ^ 64 = rw (← value) small in
    token_at-plain b (bs ++ more) _ (digit_isnt_quote b all.0)
    (plain_at-digit b (bs ++ more) all.0 ∙ number_at-only (b ∷ bs) more all stops fits)
    ∙ ap (λ (v : ℕ). found (kinds.Number v) more) (sym value)

-- a word goes on where one begins
touched : (more : List ℕ) → BeginsWord more → goes_on more ≡ true
touched more (b, bs, whole, begins) = ap goes_on whole ∙ begins_is_word_byte b begins

-- digits that are no number
number_at-none : (text more : List ℕ) → AllAre is_digit text → StopsAt is_digit more
    → (2 ^ 64 ≤ digits_value text) ⊎ BeginsWord more → number_at (text ++ more) ≡ None
unfolding number_at
number_at-none text more all stops (inr begins) =
    let n : prefix_len is_digit (text ++ more) ≡ length text = run_is is_digit text more all stops in
    rw (n, drop_at text more (length text) refl, touched more begins) refl
number_at-none text more all stops (inl large) =
    let n : prefix_len is_digit (text ++ more) ≡ length text = run_is is_digit text more all stops in
    elim (cases (goes_on more)) [
      | inl next ↦ rw (n, drop_at text more (length text) refl, next) refl
      | inr none ↦
          rw (
            n,
            take_at text more (length text) refl,
            drop_at text more (length text) refl,
            none,
            le-ltb (digits_value text) (2 ^ 64) large,
          ) refl
    ]

-- bad digits are read as bad
bad_number-only : (digits more : List ℕ) → digits ≢ [] → AllAre is_digit digits → StopsAt is_digit more
    → (2 ^ 64 ≤ digits_value digits) ⊎ BeginsWord more
    → token_at (digits ++ more) ≡ Err (digits ++ more)
bad_number-only [] more some all stops bad = absurd (some refl)
bad_number-only (b ∷ bs) more some all stops bad =
    token_at-plain b (bs ++ more) None (digit_isnt_quote b all.0)
    (plain_at-digit b (bs ++ more) all.0 ∙ number_at-none (b ∷ bs) more all stops bad)

-- what begins with a quote is read as a text
token_at-quote : (bs : List ℕ) (read : Pieces) → pieces_at bs ≡ read
    → token_at (39 ∷ bs) ≡ text_of (39 ∷ bs) read
unfolding token_at
token_at-quote bs read e = ap (text_of (39 ∷ bs)) e

-- a text that stands there is read
text-only : (bytes more text pieces : List ℕ) → bytes ≡ 39 ∷ (pieces ++ 39 ∷ []) → ArePieces pieces text
    → StopsAt (λ b. eqb b 39) more → token_at (bytes ++ more) ≡ found (kinds.Text text) more
text-only bytes more text pieces whole are stops =
    ap (λ (t : List ℕ). token_at (t ++ more)) whole
    ∙ ap (λ (t : List ℕ). token_at (39 ∷ t)) (append_assoc pieces (39 ∷ []) more)
    ∙ token_at-quote (pieces ++ 39 ∷ more) (Closed text more) (pieces_at-closed text pieces more are stops)

-- a byte that begins no word, number or text
token_at-other : (b : ℕ) (bs : List ℕ) (found : Option FoundSymbol) → begins_word b ≡ false
    → is_digit b ≡ false → eqb b 39 ≡ false → symbol_at (b ∷ bs) ≡ found
    → token_at (b ∷ bs) ≡ found_or_bad (b ∷ bs) (symbol_token found)
unfolding token_at plain_at
token_at-other b bs found word digit quote e = rw (quote, word, digit, e) refl

-- a byte with which a symbol may begin
abbrev IsSign : List ℕ → Type 0
IsSign [] = ⊥
IsSign (b ∷ bs) = (is_blank b ≡ false) × (begins_word b ≡ false) × (is_digit b ≡ false) × (eqb b 39 ≡ false)

-- a symbol has a byte, with which no other token begins
sign_first : (s : Symbol) → AllByRecursion IsSign (spellings s)
sign_first symbols.Left = ((refl, refl, refl, refl), tt)
sign_first symbols.Right = ((refl, refl, refl, refl), tt)
sign_first symbols.Comma = ((refl, refl, refl, refl), tt)
sign_first symbols.Semicolon = ((refl, refl, refl, refl), tt)
sign_first symbols.Star = ((refl, refl, refl, refl), tt)
sign_first symbols.Plus = ((refl, refl, refl, refl), tt)
sign_first symbols.Percent = ((refl, refl, refl, refl), tt)
sign_first symbols.Eq = ((refl, refl, refl, refl), ((refl, refl, refl, refl), tt))
sign_first symbols.Ne = ((refl, refl, refl, refl), ((refl, refl, refl, refl), tt))
sign_first symbols.Lt = ((refl, refl, refl, refl), tt)
sign_first symbols.Le = ((refl, refl, refl, refl), tt)
sign_first symbols.Gt = ((refl, refl, refl, refl), tt)
sign_first symbols.Ge = ((refl, refl, refl, refl), tt)

-- each spelling of a symbol begins like one
begins_sign : (s : Symbol) (text : List ℕ) → Contains (spellings s) text → IsSign text
begins_sign s text is =
    All-contains IsSign (spellings s) text (All-from_recursion IsSign (spellings s) (sign_first s)) is

-- a symbol that stands there is read
symbol-only : (text more : List ℕ) (s : Symbol) → IsSign text → symbol_at (text ++ more) ≡ Some (s, more)
    → token_at (text ++ more) ≡ found (kinds.Symbol s) more
symbol-only [] more s sign e = absurd sign
symbol-only (b ∷ bs) more s (blank, word, digit, quote) e =
    token_at-other b (bs ++ more) (Some (s, more)) word digit quote e

-- the token that stands at the start is read
pub token_at-only : (kind : TokenKind) (text more : List ℕ) → Spells kind text → Ends kind text more
    → token_at (text ++ more) ≡ found kind more
token_at-only kinds.Word text more is ends = word-only text more is ends
token_at-only (kinds.Number n) text more is ends = number-only text more n is ends
token_at-only (kinds.Text t) text more (pieces, whole, are) ends = text-only text more t pieces whole are ends
token_at-only (kinds.Symbol s) text more is ends =
    symbol-only text more s (begins_sign s text is) (symbol_at-only text more s is ends)

-- what is bad is read as bad, from its offset on
abbrev IsReadBad : List ℕ → ℕ → Type 0
IsReadBad bytes offset =
    (stuck : List ℕ) × (token_at bytes ≡ Err stuck) × (length bytes ≡ offset + length stuck)

-- a byte that begins no token is read as bad
no_token-only : (bytes : List ℕ) → IsNoToken bytes → token_at bytes ≡ Err bytes
no_token-only bytes is =
    let quote : eqb is.first 39 ≡ false = isnt is.first 39 is.quote in
    let none : symbol_at (is.first ∷ is.more) ≡ None =
    ap symbol_at (sym is.whole) ∙ no_symbol bytes is.symbol in
    ap token_at is.whole ∙ token_at-other is.first is.more None is.word is.digit quote none
    ∙ ap (λ (x : List ℕ). Err x) (sym is.whole)

-- what is bad from its first byte on is read so
here-only : (bytes : List ℕ) → IsBadNumber bytes ⊎ (IsTextWithoutEnd bytes ⊎ IsNoToken bytes)
    → token_at bytes ≡ Err bytes
here-only bytes (inl is) =
    ap token_at is.whole ∙ bad_number-only is.digits is.more is.some is.all is.stops is.bad
    ∙ ap (λ (x : List ℕ). Err x) (sym is.whole)
here-only bytes (inr (inl is)) =
    ap token_at is.whole ∙ token_at-quote is.pieces NoEnd (pieces_at-no_end is.text is.pieces is.spelled)
    ∙ ap (λ (x : List ℕ). Err x) (sym is.whole)
here-only bytes (inr (inr is)) = no_token-only bytes is

-- what is bad is read as bad, at its offset
pub token_at-bad : (bytes : List ℕ) (offset : ℕ) → IsBad bytes offset → IsReadBad bytes offset
token_at-bad bytes offset (inl (none, bad)) = (bytes, here-only bytes bad, omega arith)
token_at-bad bytes offset (inr is) = (
  92 ∷ is.more,
  ap token_at is.whole
      ∙ token_at-quote (is.pieces ++ 92 ∷ is.more) (BadEscape (92 ∷ is.more))
      (pieces_at-bad is.text is.pieces is.more is.spelled is.unknown),
  omega (arith, ap length is.whole, is.before, length-append is.pieces (92 ∷ is.more)),
)

-- ---- what begins with no blank

-- a token has bytes, and begins with no blank
abbrev pub BeginsToken : List ℕ → Type 0
BeginsToken [] = ⊥
BeginsToken (b ∷ bs) = is_blank b ≡ false

-- a text begins with a quote
begins_text : (text pieces : List ℕ) → text ≡ 39 ∷ (pieces ++ 39 ∷ []) → BeginsToken text
begins_text text pieces whole = subst BeginsToken (sym whole) refl

-- a symbol begins with no blank
begins_symbol : (text : List ℕ) → IsSign text → BeginsToken text
begins_symbol [] sign = sign
begins_symbol (b ∷ bs) sign = sign.0

-- a token begins with no blank
pub begins_token : (kind : TokenKind) (text : List ℕ) → Spells kind text → BeginsToken text
begins_token kinds.Word [] is = is
begins_token kinds.Word (b ∷ bs) is = word_isnt_blank b is.0
begins_token (kinds.Number n) [] is = absurd (is.0 refl)
begins_token (kinds.Number n) (b ∷ bs) is = digit_isnt_blank b is.1.0
begins_token (kinds.Text t) text (pieces, whole, are) = begins_text text pieces whole
begins_token (kinds.Symbol s) text is = begins_symbol text (begins_sign s text is)

-- digits begin with no blank
begins_digits : (digits more : List ℕ) → digits ≢ [] → AllAre is_digit digits → BeginsToken (digits ++ more)
begins_digits [] more some all = absurd (some refl)
begins_digits (b ∷ bs) more some all = digit_isnt_blank b all.0

-- what is bad begins with no blank
pub begins_bad : (bytes : List ℕ) (offset : ℕ) → IsBad bytes offset → BeginsToken bytes
begins_bad bytes offset (inl (none, inl is)) =
    subst BeginsToken (sym is.whole) (begins_digits is.digits is.more is.some is.all)
begins_bad bytes offset (inl (none, inr (inl is))) = subst BeginsToken (sym is.whole) refl
begins_bad bytes offset (inl (none, inr (inr is))) = subst BeginsToken (sym is.whole) is.blank
begins_bad bytes offset (inr is) = subst BeginsToken (sym is.whole) refl
