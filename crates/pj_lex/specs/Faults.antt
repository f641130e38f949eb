-- Why a body was not cut into tokens.
use Rattle.std.specs.Prelude.{ℕ, List}
use Rattle.pj_lex.specs.declared.cutting.LexFault.{LexFault}
use Rattle.pj_lex.specs.declared.cutting.LexFault.TheVariants as faults
use Rattle.pj_lex.specs.Tokens.{BreaksAt}

-- the body breaks at the offset that the fault tells; out of memory has no cause in the body
abbrev pub HasLexCause : List ℕ → LexFault → Type 0
HasLexCause body (faults.BadToken at) = BreaksAt body at
HasLexCause body faults.NoMemory = Unit {0}
