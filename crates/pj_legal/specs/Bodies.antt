-- What a body means for a catalog: a bound statement, or a refusal (docs/GRAMMAR.md, "Binding").
use Rattle.std.specs.Prelude.{◌≡◌, ℕ, ◌<◌, ◌⊎◌, List, length}
use Rattle.std.specs.List.{Any}
use Rattle.pj_lex.specs.declared.token.TokenKind.TheVariants as token_kinds
use Rattle.pj_lex.specs.declared.token.Token.{Token}
use Rattle.pj_lex.specs.Tokens.{AreTokens, BreaksAt}
use Rattle.pj_grammar.specs.declared.types.Statement.{Statement}
use Rattle.pj_grammar.specs.Lexemes.{lexemes}
use Rattle.pj_grammar.specs.grammar.Statements.{IsStatement}
use Rattle.pj_grammar.specs.SyntaxErrors.{HasTooMany, IsSyntaxError}
use Rattle.pj_expr.specs.declared.table.Table.{Table}
use Rattle.pj_bind.specs.declared.types.Bound.{Bound}
use Rattle.pj_bind.specs.declared.types.LimitName.TheVariants.{Tokens, Text}
use Rattle.pj_bind.specs.declared.types.Refusal.{Refusal}
use Rattle.pj_bind.specs.declared.types.Refusal.TheVariants.{Syntax, Limit}
use Rattle.pj_bind.specs.Built.{IsBuilt}
use Rattle.pj_bind.specs.Binding.{IsBound, IsRefusal}
use Rattle.pj_legal.specs.declared.bodies.Parsed.{Parsed}
use Rattle.pj_legal.specs.declared.bodies.Parsed.TheVariants as parsed

-- ---- how a body is read

-- how many bytes a text of a statement may have
abbrev pub text_limit : ℕ
text_limit = 65535

-- the token is a text of more bytes
abbrev pub IsLongText : Token → Type 0
IsLongText token = (text : List ℕ) × (token.kind ≡ token_kinds.Text text) × (text_limit < length text)

-- one of the tokens is such a text
abbrev pub HasLongText : List Token → Type 0
HasLongText tokens = Any IsLongText tokens

-- the body is read as this statement: its tokens aren't too many and spell it, and no text is too long
pub record BodyReads (body : List ℕ) (statement : Statement) : Type 0 where
  pub tokens : List Token
  pub are : AreTokens body tokens
  pub few : HasTooMany (lexemes body tokens) → ⊥
  pub spelled : IsStatement (lexemes body tokens) statement
  pub short : HasLongText tokens → ⊥

-- a token, or the end, stands where no statement goes on, and the tokens are not too many
pub record IsOffGrammar (body : List ℕ) (at : ℕ) : Type 0 where
  pub tokens : List Token
  pub are : AreTokens body tokens
  pub few : HasTooMany (lexemes body tokens) → ⊥
  pub error : IsSyntaxError body tokens at

-- the tokens are too many
abbrev pub HasManyTokens : List ℕ → Type 0
HasManyTokens body = (tokens : List Token) × AreTokens body tokens × HasTooMany (lexemes body tokens)

-- the tokens are not too many and spell a statement, and a text is too long
pub record HasLongStatement (body : List ℕ) : Type 0 where
  pub tokens : List Token
  pub are : AreTokens body tokens
  pub few : HasTooMany (lexemes body tokens) → ⊥
  pub statement : Statement
  pub spelled : IsStatement (lexemes body tokens) statement
  pub long : HasLongText tokens

-- the body can't be read, and this is the first cause of that in the order of refusals
abbrev pub IsUnreadable : List ℕ → Refusal → Type 0
IsUnreadable body (Syntax at) = BreaksAt body at ⊎ IsOffGrammar body at
IsUnreadable body (Limit Tokens) = HasManyTokens body
IsUnreadable body (Limit Text) = HasLongStatement body
IsUnreadable body refusal = ⊥

-- the body is read as the statement, or can't be read for this cause
abbrev pub IsParsed : List ℕ → Parsed → Type 0
IsParsed body (parsed.Statement statement) = BodyReads body statement
IsParsed body (parsed.Refused refusal) = IsUnreadable body refusal

-- ---- what a body means

-- the body is read as a statement of a built form, which binds to this
abbrev pub BodyBinds : List Table → List ℕ → Bound → Type 0
BodyBinds tables body bound =
    (statement : Statement) × BodyReads body statement × IsBuilt statement × IsBound tables statement bound

-- the body can't be read, or is read as a statement that is refused so
abbrev pub IsBodyRefusal : List Table → List ℕ → Refusal → Type 0
IsBodyRefusal tables body refusal =
    IsUnreadable body refusal
    ⊎ ((statement : Statement) × BodyReads body statement × IsRefusal tables statement refusal)
