-- Laws of tokens.
use Rattle.std.specs.Prelude.{◌≡◌, ℕ, ◌⊎◌, List}
use Rattle.pj_lex.specs.declared.token.Token.{Token}
use Rattle.pj_lex.specs.Tokens.{AreTokens, BreaksAt}

-- a body has its tokens in one way
abbrev pub OneList : Type 0
OneList = (body : List ℕ) (a b : List Token) → AreTokens body a → AreTokens body b → a ≡ b

-- a body has tokens, or it breaks
abbrev pub TokensOrBreak : Type 0
TokensOrBreak =
    (body : List ℕ) → ((tokens : List Token) × AreTokens body tokens) ⊎ ((at : ℕ) × BreaksAt body at)

-- a body that breaks has no tokens
abbrev pub NoTokensWithABreak : Type 0
NoTokensWithABreak =
    (body : List ℕ) (tokens : List Token) (at : ℕ) → AreTokens body tokens → BreaksAt body at → ⊥

-- a body breaks at one offset
abbrev pub OneBreak : Type 0
OneBreak = (body : List ℕ) (a b : ℕ) → BreaksAt body a → BreaksAt body b → a ≡ b
