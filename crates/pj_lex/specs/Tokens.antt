-- Tokens of a body (docs/GRAMMAR.md, "Tokens").
use Rattle.std.specs.Prelude.{◌≡◌, ◌≢◌, ℕ, ◌+◌, ◌-◌, ◌*◌, ◌^◌, ◌<◌, ◌≤◌, ◌⊎◌, Bool, true, false}
use Rattle.std.specs.Prelude.{List, [], ◌∷◌, ◌++◌, length, ◌==◌, fold, Contains, codes}
use Rattle.pj_lex.specs.declared.token.Symbol.{Symbol}
use Rattle.pj_lex.specs.declared.token.Symbol.TheVariants as symbols
use Rattle.pj_lex.specs.declared.token.TokenKind.{TokenKind}
use Rattle.pj_lex.specs.declared.token.TokenKind.TheVariants as kinds
use Rattle.pj_lex.specs.declared.token.Token.{Token}
use Rattle.pj_lex.specs.Bytes.{is_blank, is_digit, begins_word, is_word_byte, AllAre, IsBlank}

-- ---- the bytes of one token

-- a letter or `_`, and then letters, digits and `_`
abbrev pub IsWord : List ℕ → Type 0
IsWord [] = ⊥
IsWord (b ∷ bs) = (begins_word b ≡ true) × AllAre is_word_byte bs

-- the number of these digits
abbrev pub digits_value : List ℕ → ℕ
digits_value digits = fold (λ n b. 10 * n + (b - 48)) 0 digits

-- at least one digit, and the number below 2 ^ 64 that they stand for
abbrev pub IsNumber : List ℕ → ℕ → Type 0
IsNumber bytes n = (bytes ≢ []) × AllAre is_digit bytes × (n ≡ digits_value bytes) × (n < 2 ^ 64)

-- two quotes for one, and the escapes, each with the byte that it stands for: backslash, quote, tab, line
-- feed, carriage return, zero
abbrev pub escapes : List (List ℕ × ℕ)
escapes =
    (39 ∷ 39 ∷ [], 39)
    ∷ (92 ∷ codes "'", 39) ∷ (92 ∷ 92 ∷ [], 92) ∷ (92 ∷ codes "t", 9) ∷ (92 ∷ codes "n", 10)
    ∷ (92 ∷ codes "r", 13) ∷ (92 ∷ codes "0", 0) ∷ []

-- a piece of a text, and the byte that it stands for: itself, or by an escape
abbrev pub IsPiece : List ℕ → ℕ → Type 0
IsPiece piece byte = ((piece ≡ byte ∷ []) × (byte ≢ 39) × (byte ≢ 92)) ⊎ Contains escapes (piece, byte)

-- the bytes are pieces, one for each byte of the text
abbrev pub ArePieces : List ℕ → List ℕ → Type 0
ArePieces bytes [] = bytes ≡ []
ArePieces bytes (b ∷ text) =
    (piece : List ℕ) × (more : List ℕ) × (bytes ≡ piece ++ more) × IsPiece piece b × ArePieces more text

-- how a symbol may be spelled
abbrev pub spellings : Symbol → List (List ℕ)
spellings symbols.Left = codes "(" ∷ []
spellings symbols.Right = codes ")" ∷ []
spellings symbols.Comma = codes "," ∷ []
spellings symbols.Semicolon = codes ";" ∷ []
spellings symbols.Star = codes "*" ∷ []
spellings symbols.Plus = codes "+" ∷ []
spellings symbols.Percent = codes "%" ∷ []
spellings symbols.Eq = codes "=" ∷ codes "==" ∷ []
spellings symbols.Ne = codes "!=" ∷ codes "<>" ∷ []
spellings symbols.Lt = codes "<" ∷ []
spellings symbols.Le = codes "<=" ∷ []
spellings symbols.Gt = codes ">" ∷ []
spellings symbols.Ge = codes ">=" ∷ []

-- the bytes of a token
abbrev pub Spells : TokenKind → List ℕ → Type 0
Spells kinds.Word bytes = IsWord bytes
Spells (kinds.Number n) bytes = IsNumber bytes n
Spells (kinds.Text text) bytes =
    (pieces : List ℕ) × (bytes ≡ 39 ∷ (pieces ++ 39 ∷ [])) × ArePieces pieces text
Spells (kinds.Symbol symbol) bytes = Contains (spellings symbol) bytes

-- the next byte, if there is one, fails the test
abbrev pub StopsAt : (ℕ → Bool) → List ℕ → Type 0
StopsAt test [] = Unit {0}
StopsAt test (b ∷ bs) = test b ≡ false

-- with the byte behind them these bytes are no symbol
abbrev pub IsLongest : List ℕ → List ℕ → Type 0
IsLongest bytes [] = Unit {0}
IsLongest bytes (b ∷ more) = (symbol : Symbol) → Contains (spellings symbol) (bytes ++ b ∷ []) → ⊥

-- what stands behind a token's bytes can't belong to it: no word byte behind a word or a number, no quote
-- behind a text, and a symbol is the longest
abbrev pub Ends : TokenKind → List ℕ → List ℕ → Type 0
Ends kinds.Word bytes more = StopsAt is_word_byte more
Ends (kinds.Number n) bytes more = StopsAt is_word_byte more
Ends (kinds.Text text) bytes more = StopsAt (λ b. b == 39) more
Ends (kinds.Symbol symbol) bytes more = IsLongest bytes more

-- ---- the tokens of a body

-- behind blanks a token of this kind stands first, with these bytes, and these are behind it
pub record StandsFirst (bytes : List ℕ) (kind : TokenKind) (text more : List ℕ) : Type 0 where
  pub blanks : List ℕ
  pub whole : bytes ≡ blanks ++ (text ++ more)
  pub blank : IsBlank blanks
  pub spelled : Spells kind text
  pub ended : Ends kind text more

-- the token stands first in these bytes of the body, which begin at this offset; these are behind it
pub record IsFirst (here : ℕ) (bytes : List ℕ) (token : Token) (more : List ℕ) : Type 0 where
  pub text : List ℕ
  pub stands : StandsFirst bytes token.kind text more
  pub at : token.at ≡ here + length stands.blanks
  pub end : token.end ≡ token.at + length text

-- these tokens stand first, one behind the other, and lead from an offset and the bytes there to another
abbrev pub Lead : ℕ → List ℕ → List Token → ℕ → List ℕ → Type 0
Lead here bytes [] there rest = (there ≡ here) × (rest ≡ bytes)
Lead here bytes (token ∷ tokens) there rest =
    (more : List ℕ) × IsFirst here bytes token more × Lead token.end more tokens there rest

-- the body's tokens, with blanks alone round them
abbrev pub AreTokens : List ℕ → List Token → Type 0
AreTokens body tokens = (there : ℕ) × (rest : List ℕ) × Lead 0 body tokens there rest × IsBlank rest

-- ---- the offset of a bad token

-- a letter or `_` stands first
abbrev pub BeginsWord : List ℕ → Type 0
BeginsWord bytes = (b : ℕ) × (more : List ℕ) × (bytes ≡ b ∷ more) × (begins_word b ≡ true)

-- all the digits at the start, whose number is too large, or which a letter or `_` touches
pub record IsBadNumber (bytes : List ℕ) : Type 0 where
  pub digits : List ℕ
  pub more : List ℕ
  pub whole : bytes ≡ digits ++ more
  pub some : digits ≢ []
  pub all : AllAre is_digit digits
  pub stops : StopsAt is_digit more
  pub bad : (2 ^ 64 ≤ digits_value digits) ⊎ BeginsWord more

-- a quote and pieces, and then a backslash with which no piece begins: the bytes before it
pub record IsBadEscape (bytes : List ℕ) (offset : ℕ) : Type 0 where
  pub pieces : List ℕ
  pub text : List ℕ
  pub more : List ℕ
  pub whole : bytes ≡ 39 ∷ (pieces ++ 92 ∷ more)
  pub spelled : ArePieces pieces text
  pub unknown : (piece back : List ℕ) (byte : ℕ) → 92 ∷ more ≡ piece ++ back → IsPiece piece byte → ⊥
  pub before : offset ≡ 1 + length pieces

-- a quote and pieces up to the end
pub record IsTextWithoutEnd (bytes : List ℕ) : Type 0 where
  pub pieces : List ℕ
  pub text : List ℕ
  pub whole : bytes ≡ 39 ∷ pieces
  pub spelled : ArePieces pieces text

-- a byte that begins no token: no blank, letter, `_`, digit or quote, and no symbol stands first
pub record IsNoToken (bytes : List ℕ) : Type 0 where
  pub first : ℕ
  pub more : List ℕ
  pub whole : bytes ≡ first ∷ more
  pub blank : is_blank first ≡ false
  pub word : begins_word first ≡ false
  pub digit : is_digit first ≡ false
  pub quote : first ≢ 39
  pub symbol : (symbol : Symbol) (prefix back : List ℕ) → bytes ≡ prefix ++ back
      → Contains (spellings symbol) prefix → ⊥

-- no token stands first in these bytes, and that is so far from their start
abbrev pub IsBad : List ℕ → ℕ → Type 0
IsBad bytes offset =
    ((offset ≡ 0) × (IsBadNumber bytes ⊎ (IsTextWithoutEnd bytes ⊎ IsNoToken bytes)))
    ⊎ IsBadEscape bytes offset

-- behind some tokens and blanks no token stands, and this is the offset of that
pub record BreaksAt (body : List ℕ) (at : ℕ) : Type 0 where
  pub tokens : List Token
  pub there : ℕ
  pub rest : List ℕ
  pub prefix : Lead 0 body tokens there rest
  pub blanks : List ℕ
  pub bytes : List ℕ
  pub whole : rest ≡ blanks ++ bytes
  pub blank : IsBlank blanks
  pub offset : ℕ
  pub bad : IsBad bytes offset
  pub position : at ≡ there + length blanks + offset
