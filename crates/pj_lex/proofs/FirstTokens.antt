-- The first token of some bytes: what is read at the start stands first, and what stands first is read.
use Rattle.std.proofs.Common.{◌≡◌, ℕ, Bool, ◌^◌, ◌-◌, ◌<◌, ◌≤◌, true, false, cond, eqb, ltb, List, [], ◌∷◌}
use Rattle.std.proofs.Common.{◌++◌, length, Option, Some, None, Ok, Err, refl, sym, ap, ◌∙◌, inl, inr}
use Rattle.std.proofs.Common.{get_or, take, drop, arith}
use Rattle.std.proofs.Common.{append_assoc}
use Rattle.std.proofs.lemmas.Bool.{ltb-true}
use Rattle.std.proofs.lemmas.List.{take_all}
use Rattle.std.proofs.lemmas.Option.{none-some}
use Rattle.std.proofs.Common.{Contains}
use Rattle.std.specs.Borrow.{Bor}
use Rattle.std.specs.List.{prefix_len}
use Rattle.std.proofs.lemmas.List.{take_at, drop_at, nil_from_length}
use Rattle.std.proofs.lemmas.Bool.{eqb-true}
use Rattle.std.proofs.lemmas.List.Elements.{All-contains, All-from_recursion}
use Rattle.pj_lex.specs.declared.token.Symbol.{Symbol}
use Rattle.pj_lex.specs.declared.token.Symbol.TheVariants as symbols
use Rattle.pj_lex.specs.declared.token.TokenKind.{TokenKind}
use Rattle.pj_lex.specs.declared.token.TokenKind.TheVariants as kinds
use Rattle.pj_lex.specs.Bytes.{is_blank, is_digit, is_word_byte, AllAre, after_blanks}
use Rattle.pj_lex.specs.Tokens.{spellings, IsWord, digits_value, Spells, StopsAt, Ends, StandsFirst}
use Rattle.pj_lex.specs.FirstToken.{HasFirst, IsFound, IsBehindFirst, begins_word_first}
use Rattle.pj_lex.specs.TokenReading.{Read, goes_on, symbol_at}
use Rattle.pj_lex.specs.TokenReading.{Pieces, Closed, BadEscape, NoEnd}
use Rattle.pj_lex.specs.TokenReading.{pieces_at, text_of}
use Rattle.pj_lex.proofs.TokenBytes.{choice, run_passes, run_is, begins_is_word_byte, stops_digits}
use Rattle.pj_lex.proofs.TokenNumbers.{small as fits}
use Rattle.pj_lex.proofs.BodyLaws.{stands-behind}
use Rattle.pj_lex.proofs.SymbolPrefix.{symbol_at-found}
use Rattle.pj_lex.proofs.TextPieces.{AreRead, pieces_are_read, pieces_at-closed}
use Rattle.pj_lex.proofs.BodyTokens.{blanks_of, blanks-whole}

-- what is read behind the blanks at the start stands first
pub stands : (bytes text more : List ℕ) (kind : TokenKind) → after_blanks bytes ≡ text ++ more
    → Spells kind text → Ends kind text more → StandsFirst bytes kind text more
stands bytes text more kind e spelled ended =
    record {
      blanks = blanks_of bytes;
      whole = blanks-whole bytes ∙ ap (λ (x : List ℕ). blanks_of bytes ++ x) e;
      blank = run_passes is_blank bytes;
      spelled = spelled;
      ended = ended;
    }

-- ---- symbols

-- a symbol that is read stands first
symbol-stands : (bytes more : List ℕ) (symbol : Symbol) → symbol_at (after_blanks bytes) ≡ Some (symbol, more)
    → HasFirst (kinds.Symbol symbol) bytes more
symbol-stands bytes more symbol e =
    let prefix = symbol_at-found (after_blanks bytes) more symbol e in (
      prefix.text,
      stands bytes prefix.text more (kinds.Symbol symbol) prefix.whole prefix.spelled prefix.longest,
    )

-- so does a byte that is a symbol whatever is behind it
mark-stands : (bytes more : List ℕ) (b : ℕ) (symbol : Symbol)
    → ((rest : List ℕ) → symbol_at (b ∷ rest) ≡ Some (symbol, rest)) → after_blanks bytes ≡ b ∷ more
    → HasFirst (kinds.Symbol symbol) bytes more
mark-stands bytes more b symbol is e = symbol-stands bytes more symbol (ap symbol_at e ∙ is more)

-- and where that byte isn't first, no such symbol is
mark-found : (bytes : List ℕ) (b : ℕ) (symbol : Symbol)
    → ((rest : List ℕ) → symbol_at (b ∷ rest) ≡ Some (symbol, rest))
    → ((own : List ℕ) → Contains (spellings symbol) own → own ≡ b ∷ [])
    → (o : Option (Bor (List ℕ))) → IsBehindFirst b (after_blanks bytes) o
    → IsFound (kinds.Symbol symbol) bytes o
mark-found bytes b symbol is only (Some more) first = mark-stands bytes more.now b symbol is first
mark-found bytes b symbol is only None none =
    λ more has.
    none more
    (stands-behind bytes has.0 more (kinds.Symbol symbol) has.1
    ∙ ap (λ (x : List ℕ). x ++ more) (only has.0 has.1.spelled))

-- a list of one spelling has no other
one_spelling : (b : ℕ) (own : List ℕ) → Contains ((b ∷ []) ∷ []) own → own ≡ b ∷ []
one_spelling b own is =
    All-contains (λ (x : List ℕ). x ≡ b ∷ []) ((b ∷ []) ∷ []) own
    (All-from_recursion (λ (x : List ℕ). x ≡ b ∷ []) ((b ∷ []) ∷ []) (refl, tt)) is

left_is : (rest : List ℕ) → symbol_at (40 ∷ rest) ≡ Some (symbols.Left, rest)
unfolding symbol_at
left_is [] = refl
left_is (c ∷ rest) = refl

right_is : (rest : List ℕ) → symbol_at (41 ∷ rest) ≡ Some (symbols.Right, rest)
unfolding symbol_at
right_is [] = refl
right_is (c ∷ rest) = refl

comma_is : (rest : List ℕ) → symbol_at (44 ∷ rest) ≡ Some (symbols.Comma, rest)
unfolding symbol_at
comma_is [] = refl
comma_is (c ∷ rest) = refl

semicolon_is : (rest : List ℕ) → symbol_at (59 ∷ rest) ≡ Some (symbols.Semicolon, rest)
unfolding symbol_at
semicolon_is [] = refl
semicolon_is (c ∷ rest) = refl

-- `(`, `)`, `,` and `;`
pub left-found : (bytes : List ℕ) (o : Option (Bor (List ℕ))) → IsBehindFirst 40 (after_blanks bytes) o
    → IsFound (kinds.Symbol symbols.Left) bytes o
left-found bytes = mark-found bytes 40 symbols.Left left_is (λ own is. one_spelling 40 own is)

pub right-found : (bytes : List ℕ) (o : Option (Bor (List ℕ))) → IsBehindFirst 41 (after_blanks bytes) o
    → IsFound (kinds.Symbol symbols.Right) bytes o
right-found bytes = mark-found bytes 41 symbols.Right right_is (λ own is. one_spelling 41 own is)

pub comma-found : (bytes : List ℕ) (o : Option (Bor (List ℕ))) → IsBehindFirst 44 (after_blanks bytes) o
    → IsFound (kinds.Symbol symbols.Comma) bytes o
comma-found bytes = mark-found bytes 44 symbols.Comma comma_is (λ own is. one_spelling 44 own is)

pub semicolon-found : (bytes : List ℕ) (o : Option (Bor (List ℕ))) → IsBehindFirst 59 (after_blanks bytes) o
    → IsFound (kinds.Symbol symbols.Semicolon) bytes o
semicolon-found bytes = mark-found bytes 59 symbols.Semicolon semicolon_is (λ own is. one_spelling 59 own is)

-- ---- words, numbers and texts

-- what is no word byte or none ends a word or a number
pub stops_here : (bytes : List ℕ) → goes_on bytes ≡ false → StopsAt is_word_byte bytes
stops_here [] h = tt
stops_here (b ∷ bs) h = h

-- word bytes of which the first begins a word are a word
pub word_is : (word : List ℕ) → begins_word_first word ≡ true → AllAre is_word_byte word → IsWord word
word_is [] begins all = absurd cc
word_is (b ∷ bs) begins all = (begins, all.1)

-- a word that is read stands first
pub word-stands : (bytes word more : List ℕ) → after_blanks bytes ≡ word ++ more → IsWord word
    → StopsAt is_word_byte more → StandsFirst bytes kinds.Word word more
word-stands bytes word more whole is stops = stands bytes word more kinds.Word whole is stops

-- digits that are read stand first, as their number
pub number-stands : (bytes digits more : List ℕ) (n : ℕ) → after_blanks bytes ≡ digits ++ more
    → eqb (length digits) 0 ≡ false → AllAre is_digit digits
    → cond (ltb (digits_value digits) (2 ^ 64)) (Some (digits_value digits)) None ≡ Some n
    → goes_on more ≡ false
    → HasFirst (kinds.Number n) bytes more
number-stands bytes digits more n whole some all e stops =
    elim (choice (ltb (digits_value digits) (2 ^ 64)) (Some (digits_value digits)) None (Some n) e) [
      | inl is ↦
          let value : n ≡ digits_value digits = let same = is.1 in cc in
          let fits : n < 2 ^ 64 = rw value (ltb-true (digits_value digits) (2 ^ 64) is.0) in (
            digits,
            stands bytes digits more (kinds.Number n) whole
                (λ none. let e' : eqb (length digits) 0 ≡ true = rw none refl in cc, all, value, fits)
                (stops_here more stops),
          )
      | inr is ↦ absurd (none-some n is.1)
    ]

-- the text of a token that is read, and the bytes behind it
text_read : Read → List ℕ
text_read (Ok (kinds.Text t, more)) = t
text_read (Ok (kinds.Word, more)) = []
text_read (Ok (kinds.Number n, more)) = []
text_read (Ok (kinds.Symbol s, more)) = []
text_read (Err bytes) = []

more_read : Read → List ℕ
more_read (Ok x) = x.1
more_read (Err bytes) = []

-- whether a token is read
found_read : Read → Bool
found_read (Ok x) = true
found_read (Err bytes) = false

-- a text that is read behind a quote stands first
pub text-stands : (bytes inside text more : List ℕ) → after_blanks bytes ≡ 39 ∷ inside
    → text_of inside (pieces_at inside) ≡ Ok (kinds.Text text, more) → HasFirst (kinds.Text text) bytes more
unfolding text_read more_read
text-stands bytes inside text more whole e = by_pieces (pieces_at inside) (pieces_are_read inside) e
  where
    by_pieces : (read : Pieces) → AreRead inside read → text_of inside read ≡ Ok (kinds.Text text, more)
        → HasFirst (kinds.Text text) bytes more
    by_pieces (Closed t rest) (pieces, all, are, stops) is =
        let same : t ≡ text = ap text_read is in
        let behind : rest ≡ more = ap more_read is in (
          39 ∷ (pieces ++ 39 ∷ []),
          stands bytes (39 ∷ (pieces ++ 39 ∷ [])) more (kinds.Text text)
              (whole
              ∙ ap (λ (x : List ℕ). 39 ∷ x) (all ∙ rw behind (sym (append_assoc pieces (39 ∷ []) more))))
              (pieces, refl, rw (← same) are) (rw (← behind) stops),
        )
    by_pieces (BadEscape stuck) are is = absurd (cc)
    by_pieces NoEnd are is = absurd (cc)

-- bytes by their first one
pub by_first : (bytes : List ℕ) (b : ℕ) → 1 ≤ length bytes → get_or bytes 0 0 ≡ b
    → bytes ≡ b ∷ take (length bytes - 1) (drop 1 bytes)
by_first [] b some is = absurd (omega arith)
by_first (c ∷ bs) b some is =
    let all : take (length (c ∷ bs) - 1) bs ≡ bs = take_all (length (c ∷ bs) - 1) bs (omega arith) in
    rw is (ap (λ (x : List ℕ). b ∷ x) (sym all))

-- ---- where none stands first

-- a run of bytes that pass the test, and no further one, is what is read of them
module _ (p : ℕ → Bool) (bytes own more : List ℕ) (whole : bytes ≡ own ++ more) (all : AllAre p own)
    (stops : StopsAt p more) where
  run-length : prefix_len p bytes ≡ length own
  run-length = ap (prefix_len p) whole ∙ run_is p own more all stops

  pub run-prefix : take (prefix_len p bytes) bytes ≡ own
  run-prefix =
      ap (λ (n : ℕ). take n bytes) run-length ∙ ap (take (length own)) whole
      ∙ take_at own more (length own) refl

  pub run-back : drop (prefix_len p bytes) bytes ≡ more
  run-back =
      ap (λ (n : ℕ). drop n bytes) run-length ∙ ap (drop (length own)) whole
      ∙ drop_at own more (length own) refl

-- the run that the code cuts off is that at the start, and what is left is behind it
pub prefix_of : (p : ℕ → Bool) (bytes behind own : List ℕ) (n : ℕ) → behind ≡ after_blanks bytes
    → n ≡ prefix_len p behind → own ≡ take n behind
    → own ≡ take (prefix_len p (after_blanks bytes)) (after_blanks bytes)
prefix_of p bytes behind own n is count cut = rw (← is) (cut ∙ ap (λ (k : ℕ). take k behind) count)

pub back_of : (p : ℕ → Bool) (bytes behind own : List ℕ) (n : ℕ) → behind ≡ after_blanks bytes
    → n ≡ prefix_len p behind → own ≡ drop n behind
    → own ≡ drop (prefix_len p (after_blanks bytes)) (after_blanks bytes)
back_of p bytes behind own n is count cut = rw (← is) (cut ∙ ap (λ (k : ℕ). drop k behind) count)

-- nothing goes on where a word or a number ends
goes_on-not : (bytes : List ℕ) → StopsAt is_word_byte bytes → goes_on bytes ≡ false
goes_on-not [] h = refl
goes_on-not (b ∷ bs) h = h

-- a number that stands first is that of the digits at the start
module _ (bytes digits behind : List ℕ) (n : ℕ) (more : List ℕ) (has : HasFirst (kinds.Number n) bytes more)
    (prefix : digits ≡ take (prefix_len is_digit (after_blanks bytes)) (after_blanks bytes))
    (back : behind ≡ drop (prefix_len is_digit (after_blanks bytes)) (after_blanks bytes)) where
  number-whole : after_blanks bytes ≡ has.0 ++ more
  number-whole = stands-behind bytes has.0 more (kinds.Number n) has.1

  number-digits : digits ≡ has.0
  number-digits =
      prefix ∙ run-prefix is_digit (after_blanks bytes) has.0 more number-whole has.1.spelled.1
      (stops_digits more has.1.ended)

  number-behind : behind ≡ more
  number-behind =
      back ∙ run-back is_digit (after_blanks bytes) has.0 more number-whole has.1.spelled.1
      (stops_digits more has.1.ended)

  -- so there are some, nothing touches them, and their number isn't too large
  pub number-some : eqb (length digits) 0 ≡ true → ⊥
  number-some none =
      has.1.spelled.0 (sym number-digits ∙ nil_from_length digits (eqb-true (length digits) 0 none))

  pub number-ends : goes_on behind ≡ true → ⊥
  number-ends goes =
      let stops : goes_on behind ≡ false = ap goes_on number-behind ∙ goes_on-not more has.1.ended in cc

  pub number-fits : cond (ltb (digits_value digits) (2 ^ 64)) (Some (digits_value digits)) None ≡ None → ⊥
  number-fits none =
      let value : n ≡ digits_value digits = has.1.spelled.2 ∙ ap digits_value (sym number-digits) in
      let small : digits_value digits < 2 ^ 64 = rw (← value) has.1.spelled.3 in
      none-some (digits_value digits) (sym (fits (digits_value digits) (2 ^ 64) small ∙ none))

-- the bytes of a word are those of words
word-bytes : (word : List ℕ) → IsWord word → AllAre is_word_byte word
word-bytes [] is = absurd is
word-bytes (b ∷ bs) is = (begins_is_word_byte b is.0, is.1)

-- a word begins like one
word-begins : (word : List ℕ) → IsWord word → begins_word_first word ≡ true
word-begins [] is = absurd is
word-begins (b ∷ bs) is = is.0

-- where no word byte at the start begins a word, no word stands first
pub word-none : (bytes own word more : List ℕ) → StandsFirst bytes kinds.Word word more
    → own ≡ take (prefix_len is_word_byte (after_blanks bytes)) (after_blanks bytes)
    → begins_word_first own ≡ false → ⊥
word-none bytes own word more s prefix none =
    let same : own ≡ word =
    prefix ∙ run-prefix is_word_byte (after_blanks bytes) word more
    (stands-behind bytes word more kinds.Word s) (word-bytes word s.spelled) s.ended in
    let begins : begins_word_first own ≡ true = ap begins_word_first same ∙ word-begins word s.spelled in
    cc

-- a text that stands first begins with a quote, and is read
pub text-quote : (bytes text more : List ℕ) → HasFirst (kinds.Text text) bytes more
    → (inside : List ℕ) × (after_blanks bytes ≡ 39 ∷ inside) × (pieces_at inside ≡ Closed text more)
text-quote bytes text more (own, s) =
    let (pieces, spelled, are) = s.spelled in (
      pieces ++ 39 ∷ more,
      stands-behind bytes own more (kinds.Text text) s ∙ ap (λ (x : List ℕ). x ++ more) spelled
          ∙ ap (λ (x : List ℕ). 39 ∷ x) (append_assoc pieces (39 ∷ []) more),
      pieces_at-closed text pieces more are s.ended,
    )

-- where none is read behind a quote, none stands first
pub text-none : (bytes inside stuck text more : List ℕ) → after_blanks bytes ≡ 39 ∷ inside
    → text_of inside (pieces_at inside) ≡ Err stuck → HasFirst (kinds.Text text) bytes more → ⊥
unfolding found_read
text-none bytes inside stuck text more whole e has =
    let (there, quote, closed) = text-quote bytes text more has in
    let same : inside ≡ there = ap (drop 1) (sym whole ∙ quote) in
    let read : text_of inside (pieces_at inside) ≡ Ok (kinds.Text text, more) =
    ap (λ (x : List ℕ). text_of inside (pieces_at x)) same ∙ ap (text_of inside) closed in
    let both : true ≡ false = ap found_read (sym read ∙ e) in
    cc
