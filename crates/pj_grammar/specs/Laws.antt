-- Laws of the grammar.
use Rattle.std.specs.Prelude.{◌≡◌, ℕ, List, ◌⊎◌}
use Rattle.pj_grammar.specs.declared.types.Statement.{Statement}
use Rattle.pj_grammar.specs.Lexemes.{Lexeme}
use Rattle.pj_grammar.specs.grammar.Statements.{IsStatement}
use Rattle.pj_grammar.specs.SyntaxErrors.{IsErrorIndex}

-- lexemes are one statement at most
abbrev pub OneStatement : Type 0
OneStatement = (ts : List Lexeme) (a b : Statement) → IsStatement ts a → IsStatement ts b → a ≡ b

-- lexemes have one index of an error at most
abbrev pub OneError : Type 0
OneError = (ts : List Lexeme) (a b : ℕ) → IsErrorIndex ts a → IsErrorIndex ts b → a ≡ b

-- lexemes are a statement, or have an index of an error
abbrev pub StatementOrError : Type 0
StatementOrError = (ts : List Lexeme) → ((s : Statement) × IsStatement ts s) ⊎ ((at : ℕ) × IsErrorIndex ts at)
