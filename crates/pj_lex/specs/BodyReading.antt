-- How a body is read, one token after the other. No public contract cites this file.
use Rattle.std.specs.Prelude.{◌≡◌, ℕ, ◌+◌, List, ◌++◌, Option, Some, None, Result, Ok, Err, length}
use Rattle.std.specs.Borrow.{Bor}
use Rattle.pj_lex.specs.declared.token.Token.{Token}
use Rattle.pj_lex.specs.declared.cutting.LexFault.{LexFault}
use Rattle.pj_lex.specs.declared.cutting.LexFault.TheVariants as faults
use Rattle.pj_lex.specs.Bytes.{IsBlank}
use Rattle.pj_lex.specs.Tokens.{IsFirst, IsBad}

-- in these bytes, which begin at this offset, no token stands behind the blanks at the start;
-- and the offset of that
pub record BreaksFrom (here : ℕ) (bytes : List ℕ) (at : ℕ) : Type 0 where
  pub blanks : List ℕ
  pub rest : List ℕ
  pub whole : bytes ≡ blanks ++ rest
  pub blank : IsBlank blanks
  pub offset : ℕ
  pub bad : IsBad rest offset
  pub position : at ≡ here + length blanks + offset

-- what the code found first in these bytes, which begin at this offset
abbrev pub IsNextToken : ℕ → List ℕ → Result (Option (Token × Bor (List ℕ))) LexFault → Type 0
IsNextToken here bytes (Ok None) = IsBlank bytes
IsNextToken here bytes (Ok (Some found)) = IsFirst here bytes found.0 found.1.now
IsNextToken here bytes (Err (faults.BadToken at)) = BreaksFrom here bytes at
IsNextToken here bytes (Err faults.NoMemory) = Unit {0}
