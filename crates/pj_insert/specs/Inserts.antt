-- What bytes spell by a rule of the grammar, token by token.
use Rattle.std.specs.Prelude.{◌≡◌, ℕ, ◌≤◌, List, [], ◌∷◌, length, codes}
use Rattle.std.specs.List.{AllByRecursion}
use Rattle.pj_lex.specs.declared.token.Token.{Token}
use Rattle.pj_lex.specs.declared.token.TokenKind.{TokenKind}
use Rattle.pj_lex.specs.declared.token.TokenKind.TheVariants as kinds
use Rattle.pj_lex.specs.Tokens.{StandsFirst, AreTokens}
use Rattle.pj_grammar.specs.declared.types.Statement.{Statement}
use Rattle.pj_grammar.specs.Lexemes.{Lexeme, lexeme_of, lexemes}
use Rattle.pj_grammar.specs.grammar.Ebnf.{Grammar}
use Rattle.pj_grammar.specs.grammar.Words.{keyword, list_name}
use Rattle.pj_grammar.specs.grammar.Statements.{IsStatement}
use Rattle.pj_grammar.specs.SyntaxErrors.{BeginsInsert}

-- how many bytes a token's text has; none where the token is no text
abbrev pub text_size : TokenKind → ℕ
text_size kinds.Word = 0
text_size (kinds.Number n) = 0
text_size (kinds.Text text) = length text
text_size (kinds.Symbol symbol) = 0

-- the body's tokens spell this statement, the first is the word INSERT, and no text has more bytes
-- than `most`
pub record IsInsert (most : ℕ) (body : List ℕ) (statement : Statement) : Type 0 where
  pub tokens : List Token
  pub are : AreTokens body tokens
  pub first : BeginsInsert (lexemes body tokens)
  pub spelled : IsStatement (lexemes body tokens) statement
  pub short : AllByRecursion (λ token. text_size token.kind ≤ most) tokens

-- ---- how it is read, which no public contract cites

-- the bytes begin with tokens of these lexemes, up to the rest, and no text of them has more bytes than
-- `most`
abbrev pub ArePrefix : ℕ → List ℕ → List Lexeme → List ℕ → Type 0
ArePrefix most bytes [] rest = rest ≡ bytes
ArePrefix most bytes (t ∷ ts) rest =
    (kind : TokenKind) × (text : List ℕ) × (more : List ℕ) × StandsFirst bytes kind text more
    × (t ≡ lexeme_of text kind) × (text_size kind ≤ most) × ArePrefix most more ts rest

-- what the bytes begin with, up to the rest, spells this value by the rule
pub record SpellsPrefix {A : Type 0} (most : ℕ) (rule : Grammar A) (bytes : List ℕ) (value : A)
    (rest : List ℕ) : Type 0 where
  pub ts : List Lexeme
  pub all : ArePrefix most bytes ts rest
  pub word : rule ts value

-- the bytes begin with INSERT INTO and this name
pub record IsIntoPrefix (bytes : List ℕ) (table : List ℕ) (rest : List ℕ) : Type 0 where
  pub insert : List ℕ
  pub into : List ℕ
  pub one : SpellsPrefix 0 (keyword (codes "INSERT")) bytes tt insert
  pub two : SpellsPrefix 0 (keyword (codes "INTO")) insert tt into
  pub three : SpellsPrefix 0 list_name into table rest
