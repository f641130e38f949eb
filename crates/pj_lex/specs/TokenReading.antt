-- How a token is read from left to right. No public contract cites this file.
use Rattle.std.specs.Prelude.{◌≡◌, ℕ, ◌^◌, ◌<◌, Bool, false, List, [], ◌∷◌, ◌++◌, Option, Some, None}
use Rattle.std.specs.Prelude.{Result, Ok, Err, length, take, drop, ◌==◌, ◌&&◌, nat_lt, if◌then◌else◌}
use Rattle.std.specs.List.{prefix_len}
use Rattle.pj_lex.specs.declared.token.Symbol.{Symbol}
use Rattle.pj_lex.specs.declared.token.Symbol.TheVariants as symbols
use Rattle.pj_lex.specs.declared.token.TokenKind.{TokenKind}
use Rattle.pj_lex.specs.declared.token.TokenKind.TheVariants as kinds
use Rattle.pj_lex.specs.declared.stuck.Stuck.{Stuck}
use Rattle.pj_lex.specs.declared.stuck.Stuck.TheVariants as stucks
use Rattle.pj_lex.specs.declared.texts.Piece.{Piece}
use Rattle.pj_lex.specs.declared.texts.Piece.TheVariants as parts
use Rattle.pj_lex.specs.Bytes.{is_digit, begins_word, is_word_byte}
use Rattle.pj_lex.specs.Tokens.{digits_value}

-- what a token is, and the bytes behind it
abbrev pub Found : Type 0
Found = TokenKind × List ℕ

-- what is found, or the bytes from a bad token on
abbrev pub Read : Type 0
Read = Result Found (List ℕ)

-- why the code found no token, unless it was out of memory
abbrev pub Fails : Stuck → Read → Type 0
Fails (stucks.At bytes) read = read ≡ Err bytes.now
Fails stucks.NoMemory read = Unit {0}

-- what the code found is what is read, unless it was out of memory
abbrev pub Gives : {X : Type 0} → (X → Found) → Result X Stuck → Read → Type 0
Gives view (Ok x) read = read ≡ Ok (view x)
Gives view (Err e) read = Fails e read

-- ---- words and numbers

-- whether a letter, a digit or `_` is next
abbrev pub goes_on : List ℕ → Bool
goes_on [] = false
goes_on (b ∷ bs) = is_word_byte b

-- the word at the start
unfoldable pub word_at : List ℕ → Found
word_at bytes = (kinds.Word, drop (prefix_len is_word_byte bytes) bytes)

-- the number at the start, which no letter or `_` may touch
unfoldable pub number_at : List ℕ → Option Found
number_at bytes =
    if goes_on (drop (prefix_len is_digit bytes) bytes) then None
    else (if nat_lt (digits_value (take (prefix_len is_digit bytes) bytes)) (2 ^ 64)
    then Some (
      kinds.Number (digits_value (take (prefix_len is_digit bytes) bytes)),
      drop (prefix_len is_digit bytes) bytes,
    )
    else None)

-- ---- symbols

-- the symbol that is spelled by two bytes
abbrev pub symbol_of_two : ℕ → ℕ → Option Symbol
symbol_of_two b c =
    if b == 61 && c == 61 then Some symbols.Eq
    else (if b == 33 && c == 61 then Some symbols.Ne
    else (if b == 60 && c == 62 then Some symbols.Ne
    else (if b == 60 && c == 61 then Some symbols.Le
    else (if b == 62 && c == 61 then Some symbols.Ge else None))))

-- the symbol that is spelled by one byte
abbrev pub symbol_of_one : ℕ → Option Symbol
symbol_of_one b =
    if b == 40 then Some symbols.Left
    else (if b == 41 then Some symbols.Right
    else (if b == 44 then Some symbols.Comma
    else (if b == 59 then Some symbols.Semicolon
    else (if b == 42 then Some symbols.Star
    else (if b == 43 then Some symbols.Plus
    else (if b == 37 then Some symbols.Percent
    else (if b == 61 then Some symbols.Eq
    else (if b == 60 then Some symbols.Lt
    else (if b == 62 then Some symbols.Gt else None)))))))))

-- a symbol, and the bytes behind it
abbrev pub FoundSymbol : Type 0
FoundSymbol = Symbol × List ℕ

-- the symbol, if there is one, with the bytes behind it
abbrev pub before : List ℕ → Option Symbol → Option FoundSymbol
before rest None = None
before rest (Some symbol) = Some (symbol, rest)

-- the symbol of two bytes at the start
abbrev pub two_at : List ℕ → Option FoundSymbol
two_at [] = None
two_at (b ∷ []) = None
two_at (b ∷ c ∷ rest) = before rest (symbol_of_two b c)

-- the symbol of one byte at the start
abbrev pub one_at : List ℕ → Option FoundSymbol
one_at [] = None
one_at (b ∷ rest) = before rest (symbol_of_one b)

-- the first of two that is found
abbrev pub first_found : Option FoundSymbol → Option FoundSymbol → Option FoundSymbol
first_found None other = other
first_found (Some found) other = Some found

-- the symbol at the start, the longest that there is
unfoldable pub symbol_at : List ℕ → Option FoundSymbol
symbol_at bytes = first_found (two_at bytes) (one_at bytes)

-- ---- texts

-- the byte that a backslash and this byte stand for
abbrev pub escaped : ℕ → Option ℕ
escaped b =
    if b == 39 then Some 39
    else (if b == 92 then Some 92
    else (if b == 116 then Some 9
    else (if b == 110 then Some 10
    else (if b == 114 then Some 13
    else (if b == 48 then Some 0 else None)))))

-- the text up to the quote that ends it, and the bytes behind that; or the bytes from a bad escape on; or
-- that there is no end
pub data Pieces : Type 0 where
  Closed : List ℕ → List ℕ → Pieces
  BadEscape : List ℕ → Pieces
  NoEnd : Pieces

-- bytes of the text, and the pieces behind them
abbrev pub with_prefix : List ℕ → Pieces → Pieces
with_prefix prefix (Closed text rest) = Closed (prefix ++ text) rest
with_prefix prefix (BadEscape bytes) = BadEscape bytes
with_prefix prefix NoEnd = NoEnd

-- what an escape stands for, and the pieces behind it
abbrev pub with_escape : List ℕ → Option ℕ → Pieces → Pieces
with_escape bytes None pieces = BadEscape bytes
with_escape bytes (Some byte) pieces = with_prefix (byte ∷ []) pieces

-- the pieces of bytes that are inside a text
unfoldable pub pieces_at : List ℕ → Pieces
pieces_at [] = NoEnd
pieces_at (b ∷ []) = if b == 39 then Closed [] [] else (if b == 92 then BadEscape (b ∷ []) else NoEnd)
pieces_at (b ∷ c ∷ rest) =
    if b == 39 then (if c == 39 then with_prefix (39 ∷ []) (pieces_at rest) else Closed [] (c ∷ rest))
    else (if b == 92 then with_escape (b ∷ c ∷ rest) (escaped c) (pieces_at rest)
    else with_prefix (b ∷ []) (pieces_at (c ∷ rest)))

-- what the code found first in bytes that are inside a text is what their pieces begin with
abbrev pub Steps : Piece → List ℕ → Type 0
Steps (parts.Byte byte rest) bytes =
    (pieces_at bytes ≡ with_prefix (byte ∷ []) (pieces_at rest.now)) × (length rest.now < length bytes)
Steps (parts.Close rest) bytes = pieces_at bytes ≡ Closed [] rest.now
Steps parts.BadEscape bytes = pieces_at bytes ≡ BadEscape bytes
Steps parts.NoEnd bytes = pieces_at bytes ≡ NoEnd

-- the text of these pieces; one with no end is bad at its first quote
abbrev pub text_of : List ℕ → Pieces → Read
text_of bytes (Closed text rest) = Ok (kinds.Text text, rest)
text_of bytes (BadEscape stuck) = Err stuck
text_of bytes NoEnd = Err bytes

-- ---- tokens

-- a symbol as a token
abbrev pub symbol_token : Option FoundSymbol → Option Found
symbol_token None = None
symbol_token (Some found) = Some (kinds.Symbol found.0, found.1)

-- the token at the start, if it is no text
unfoldable pub plain_at : List ℕ → Option Found
plain_at [] = None
plain_at (b ∷ bs) =
    if begins_word b then Some (word_at (b ∷ bs))
    else (if is_digit b then number_at (b ∷ bs) else symbol_token (symbol_at (b ∷ bs)))

-- what is found, if anything; else these bytes are bad
abbrev pub found_or_bad : List ℕ → Option Found → Read
found_or_bad bytes None = Err bytes
found_or_bad bytes (Some found) = Ok found

-- the token at the start
unfoldable pub token_at : List ℕ → Read
token_at [] = Err []
token_at (b ∷ bs) =
    if b == 39 then text_of (b ∷ bs) (pieces_at bs) else found_or_bad (b ∷ bs) (plain_at (b ∷ bs))
