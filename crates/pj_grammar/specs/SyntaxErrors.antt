-- The limit of tokens, and syntax errors (docs/GRAMMAR.md, "Statements").
use Rattle.std.specs.Prelude.{◌≡◌, ℕ, suc, ◌<◌, ◌≤◌, List, [], ◌∷◌, ◌++◌, length, take, drop, true, codes}
use Rattle.pj_lex.specs.declared.token.Token.{Token}
use Rattle.pj_grammar.specs.declared.types.Statement.{Statement}
use Rattle.pj_grammar.specs.Lexemes.{Lexeme, word, lexemes, spells}
use Rattle.pj_grammar.specs.grammar.Statements.{IsStatement}

-- how many tokens a statement may have whose first isn't the word INSERT
abbrev pub tokens_limit : ℕ
tokens_limit = 1024

-- the first token is the word INSERT, in any letter case
abbrev pub BeginsInsert : List Lexeme → Type 0
BeginsInsert ts =
    (bytes : List ℕ) × (more : List Lexeme) × (ts ≡ word bytes ∷ more)
    × (spells (codes "INSERT") bytes ≡ true)

-- there are more tokens than a statement may have
abbrev pub HasTooMany : List Lexeme → Type 0
HasTooMany ts = (tokens_limit < length ts) × (BeginsInsert ts → ⊥)

-- the lexemes begin a statement
abbrev pub Begins : List Lexeme → Type 0
Begins ts = (more : List Lexeme) × (statement : Statement) × IsStatement (ts ++ more) statement

-- so many lexemes begin a statement, and with the next one they don't; where there is no next one, they are
-- no statement
pub record IsErrorIndex (ts : List Lexeme) (count : ℕ) : Type 0 where
  pub within : count ≤ length ts
  pub before : Begins (take count ts)
  pub here : count < length ts → Begins (take (suc count) ts) → ⊥
  pub no_statement : (statement : Statement) → IsStatement ts statement → ⊥

-- where the first of these tokens stands, or the end of the body
abbrev pub offset_of : List ℕ → List Token → ℕ
offset_of body [] = length body
offset_of body (token ∷ tokens) = token.at

-- the body's tokens are no statement, and this is the offset of the first that doesn't fit
abbrev pub IsSyntaxError : List ℕ → List Token → ℕ → Type 0
IsSyntaxError body tokens at =
    (count : ℕ) × IsErrorIndex (lexemes body tokens) count × (at ≡ offset_of body (drop count tokens))
