-- The first token of some bytes, where it is the one that is asked for.
use Rattle.std.specs.Prelude.{◌≡◌, ℕ, Bool, false, List, [], ◌∷◌, Option, Some, None}
use Rattle.std.specs.Borrow.{Bor}
use Rattle.pj_lex.specs.declared.token.TokenKind.{TokenKind}
use Rattle.pj_lex.specs.declared.token.TokenKind.TheVariants as kinds
use Rattle.pj_lex.specs.Bytes.{begins_word}
use Rattle.pj_lex.specs.Tokens.{StandsFirst}

-- a token of this kind stands first in the bytes, before these
abbrev pub HasFirst : TokenKind → List ℕ → List ℕ → Type 0
HasFirst kind bytes more = (text : List ℕ) × StandsFirst bytes kind text more

-- the bytes behind the token of this kind that stands first; or none does
abbrev pub IsFound : TokenKind → List ℕ → Option (Bor (List ℕ)) → Type 0
IsFound kind bytes None = (more : List ℕ) → HasFirst kind bytes more → ⊥
IsFound kind bytes (Some more) = HasFirst kind bytes more.now

-- the number that stands first, and the bytes behind it; or none does
abbrev pub IsFoundNumber : List ℕ → Option (ℕ × Bor (List ℕ)) → Type 0
IsFoundNumber bytes None = (n : ℕ) (more : List ℕ) → HasFirst (kinds.Number n) bytes more → ⊥
IsFoundNumber bytes (Some found) = HasFirst (kinds.Number found.0) bytes found.1.now

-- the word that stands first, and the bytes behind it; or none does
abbrev pub IsFoundWord : List ℕ → Option (Bor (List ℕ) × Bor (List ℕ)) → Type 0
IsFoundWord bytes None = (word more : List ℕ) → StandsFirst bytes kinds.Word word more → ⊥
IsFoundWord bytes (Some found) = StandsFirst bytes kinds.Word found.0.now found.1.now

-- the text that stands first, and the bytes behind it; or none does
abbrev pub IsFoundText : List ℕ → Option (List ℕ × Bor (List ℕ)) → Type 0
IsFoundText bytes None = (text more : List ℕ) → HasFirst (kinds.Text text) bytes more → ⊥
IsFoundText bytes (Some found) = HasFirst (kinds.Text found.0) bytes found.1.now

-- ---- how it is found, which no public contract cites

-- the bytes behind this byte, where it is the first
abbrev pub IsBehindFirst : ℕ → List ℕ → Option (Bor (List ℕ)) → Type 0
IsBehindFirst byte bytes None = (more : List ℕ) → bytes ≡ byte ∷ more → ⊥
IsBehindFirst byte bytes (Some more) = bytes ≡ byte ∷ more.now

-- a letter or `_` is first
abbrev pub begins_word_first : List ℕ → Bool
begins_word_first [] = false
begins_word_first (b ∷ bs) = begins_word b
