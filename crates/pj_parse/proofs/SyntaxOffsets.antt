-- The offset of a syntax error among the tokens, from the lexemes that are left.
use Rattle.std.proofs.Common.{◌≡◌, ℕ, ◌-◌, ◌≤◌, List, length, drop, Err, ap, arith}
use Rattle.std.proofs.lemmas.List.{length-drop, length-map}
use Rattle.pj_lex.specs.declared.token.Token.{Token}
use Rattle.pj_grammar.specs.Lexemes.{Lexeme, lexeme, lexemes}
use Rattle.pj_grammar.specs.SyntaxErrors.{offset_of, IsSyntaxError}
use Rattle.pj_grammar.specs.parsing.Statements.{whole_sentence}
use Rattle.pj_grammar.proofs.WholeSentence.{whole_stuck}

-- no more lexemes are left than there are tokens
pub left_within : (body : List ℕ) (tokens : List Token) (rest : List Lexeme)
    → whole_sentence (lexemes body tokens) ≡ Err rest → length rest ≤ length tokens
left_within body tokens rest e =
    let p = whole_stuck (lexemes body tokens) rest e in
    omega (arith, ap length p.2, length-drop p.0 (lexemes body tokens), length-map tokens (lexeme body))

-- so many tokens from the end the error stands
pub place_from_end : (body : List ℕ) (tokens : List Token) (rest : List Lexeme)
    → whole_sentence (lexemes body tokens) ≡ Err rest
    → IsSyntaxError body tokens (offset_of body (drop (length tokens - length rest) tokens))
place_from_end body tokens rest e =
    let p = whole_stuck (lexemes body tokens) rest e in
    let count : length tokens - length rest ≡ p.0 =
    omega (
      arith,
      p.1.within,
      ap length p.2,
      length-drop p.0 (lexemes body tokens),
      length-map tokens (lexeme body),
    ) in
    (p.0, p.1, ap (λ (k : ℕ). offset_of body (drop k tokens)) count)
