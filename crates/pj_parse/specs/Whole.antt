-- What the code gives for all tokens of a body, beside what the parser on lists does. No public contract
-- cites this file.
use Rattle.std.specs.Prelude.{◌≡◌, List, Result, Ok, Err}
use Rattle.pj_grammar.specs.declared.types.Statement.{Statement}
use Rattle.pj_phrase.specs.declared.tokens.rest.Fault.{Fault}
use Rattle.pj_phrase.specs.declared.tokens.rest.Fault.TheVariants as faults
use Rattle.pj_grammar.specs.Lexemes.{Lexeme}

-- the code is stuck where the parser is; where it is out of memory it may do anything
abbrev pub FailsWhole : Fault → Result Statement (List Lexeme) → Type 0
FailsWhole (faults.Stuck rest) read = read ≡ Err rest
FailsWhole faults.NoMemory read = Unit {0}

-- what a function returned is the statement that the parser reads
abbrev pub GivesWhole : Result Statement Fault → Result Statement (List Lexeme) → Type 0
GivesWhole (Ok statement) read = read ≡ Ok statement
GivesWhole (Err fault) read = FailsWhole fault read
