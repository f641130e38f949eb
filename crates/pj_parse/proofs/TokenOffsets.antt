-- The tokens of a body lie in it.
use Rattle.std.proofs.Common.{◌≡◌, ℕ, ◌+◌, List, [], ◌∷◌, ◌++◌, length, ap, arith}
use Rattle.std.specs.List.{AllByRecursion}
use Rattle.std.proofs.lemmas.List.{length-append}
use Rattle.pj_lex.specs.declared.token.Token.{Token}
use Rattle.pj_lex.specs.Tokens.{IsFirst, Lead, AreTokens}
use Rattle.pj_grammar.specs.Lexemes.{LiesIn}

-- the bytes behind a token reach to the same end
behind_first : (here : ℕ) (bytes : List ℕ) (token : Token) (more : List ℕ) → IsFirst here bytes token more
    → here + length bytes ≡ token.end + length more
behind_first here bytes token more first =
    omega (
      arith,
      ap length first.stands.whole,
      length-append first.stands.blanks (first.text ++ more),
      length-append first.text more,
      first.at,
      first.end,
    )

tokens_lie : (body : List ℕ) (here : ℕ) (bytes : List ℕ) (tokens : List Token) (there : ℕ) (rest : List ℕ)
    → here + length bytes ≡ length body → Lead here bytes tokens there rest
    → AllByRecursion (LiesIn body) tokens
tokens_lie body here bytes [] there rest e lead = tt
tokens_lie body here bytes (token ∷ tokens) there rest e (more, first, others) =
    let reach = behind_first here bytes token more first in (
      (omega (arith, first.end), omega (arith, reach)),
      tokens_lie body token.end more tokens there rest (omega (arith, reach)) others,
    )

-- each token of the body lies in it
pub lie_in : (body : List ℕ) (tokens : List Token) → AreTokens body tokens
    → AllByRecursion (LiesIn body) tokens
lie_in body tokens (there, rest, lead, blank) = tokens_lie body 0 body tokens there rest (omega arith) lead
