-- No line feed in the words of a body's tokens, nor in the names of its statement.
use Rattle.std.proofs.Common.{◌≡◌, ℕ, ◌+◌, ◌-◌, zero, suc, true, List, [], ◌∷◌, ◌++◌, length}
use Rattle.std.proofs.Common.{take, drop, refl, sym, ap, ◌∙◌, subst, arith}
use Rattle.std.specs.Prelude.{slice_range}
use Rattle.std.specs.List.{AllByRecursion}
use Rattle.std.proofs.Math.Seq.{drop-append_seam, take-append_seam}
use Rattle.std.proofs.lemmas.Bool.{false≢true}
use Rattle.std.proofs.lemmas.List.{drop-drop}
use Rattle.pj_lex.specs.declared.token.TokenKind.{TokenKind}
use Rattle.pj_lex.specs.declared.token.TokenKind.TheVariants as kinds
use Rattle.pj_lex.specs.declared.token.Token.{Token}
use Rattle.pj_lex.specs.Bytes.{begins_word, is_word_byte, AllAre}
use Rattle.pj_lex.specs.Tokens.{IsWord, Spells, Lead}
use Rattle.pj_grammar.specs.declared.types.Statement.{Statement}
use Rattle.pj_grammar.specs.Lexemes.{lexeme_of, lexeme, lexemes}
use Rattle.pj_legal.specs.Bodies.{BodyReads}
use Rattle.pj_legal.specs.Laws.{IsOneLine}
use Rattle.pj_legal.proofs.plain.PlainRules.{IsPlainLexeme}
use Rattle.pj_legal.proofs.plain.PlainStatements.{IsPlainStatement, plain-sentence}

-- a line feed is no byte of a word
IsOneLine-bytes : (bytes : List ℕ) → AllAre is_word_byte bytes → IsOneLine bytes
IsOneLine-bytes [] all (i, below, same) = omega (arith, below)
IsOneLine-bytes (b ∷ bs) all (zero, below, same) = false≢true (subst (λ x. is_word_byte x ≡ true) same all.0)
IsOneLine-bytes (b ∷ bs) all (suc i, below, same) = IsOneLine-bytes bs all.1 (i, omega (arith, below), same)

-- what begins a word is a byte of one
begins_is_word_byte : (b : ℕ) → begins_word b ≡ true → is_word_byte b ≡ true
begins_is_word_byte b e = rw e refl

-- so a word has none
IsOneLine-word : (word : List ℕ) → IsWord word → IsOneLine word
IsOneLine-word [] is = absurd is
IsOneLine-word (b ∷ bs) is = IsOneLine-bytes (b ∷ bs) (begins_is_word_byte b is.0, is.1)

-- nor has what spelled bytes are
plain-of : (bytes : List ℕ) (kind : TokenKind) → Spells kind bytes → IsPlainLexeme (lexeme_of bytes kind)
plain-of bytes kinds.Word spells = IsOneLine-word bytes spells
plain-of bytes (kinds.Number n) spells = tt
plain-of bytes (kinds.Text t) spells = tt
plain-of bytes (kinds.Symbol s) spells = tt

-- what is left of a body behind a prefix of what was left
drop-prefix : (body : List ℕ) (here there : ℕ) (xs ys : List ℕ) → drop here body ≡ xs ++ ys
    → there ≡ here + length xs → drop there body ≡ ys
drop-prefix body here there xs ys left at =
    ap (λ (n : ℕ). drop n body) at ∙ sym (drop-drop (length xs) here body) ∙ ap (drop (length xs)) left
    ∙ drop-append_seam xs ys

-- and that prefix
slice-prefix : (body : List ℕ) (here there : ℕ) (xs ys : List ℕ) → drop here body ≡ xs ++ ys
    → there ≡ here + length xs → slice_range body here there ≡ xs
slice-prefix body here there xs ys left at =
    let wide : there - here ≡ length xs = omega arith in
    ap (take (there - here)) left ∙ ap (λ (n : ℕ). take n (xs ++ ys)) wide ∙ take-append_seam xs ys

-- the tokens of what is left of a body, as lexemes
plain-lexemes : (body : List ℕ) (here : ℕ) (bytes : List ℕ) (tokens : List Token) (there : ℕ) (rest : List ℕ)
    → drop here body ≡ bytes → Lead here bytes tokens there rest
    → AllByRecursion IsPlainLexeme (lexemes body tokens)
plain-lexemes body here bytes [] there rest left lead = tt
plain-lexemes body here bytes (token ∷ tokens) there rest left (more, first, others) =
    (plain, plain-lexemes body token.end more tokens there rest after others)
  where
    begins : drop token.at body ≡ first.text ++ more
    begins = drop-prefix body here token.at first.stands.blanks (first.text ++ more) (left
        ∙ first.stands.whole) first.at

    is : slice_range body token.at token.end ≡ first.text
    is = slice-prefix body token.at token.end first.text more begins first.end

    plain : IsPlainLexeme (lexeme body token)
    plain =
        subst (λ (bytes : List ℕ). IsPlainLexeme (lexeme_of bytes token.kind)) (sym is)
        (plain-of first.text token.kind first.stands.spelled)

    after : drop token.end body ≡ more
    after = drop-prefix body token.at token.end first.text more begins first.end

-- no line feed in the names of a body's statement
pub plain-body : (body : List ℕ) (s : Statement) → BodyReads body s → IsPlainStatement s
plain-body body s reads =
    let (there, rest, lead, blank) = reads.are in
    plain-sentence (lexemes body reads.tokens) s (plain-lexemes body 0 body reads.tokens there rest refl lead)
    reads.spelled
