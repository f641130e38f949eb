-- How a rule is read from left to right: choices look at the next lexeme, or at two. Of public contracts
-- those of `pj_phrase` and `pj_sentence` alone cite it.
use Rattle.std.specs.Prelude.{ℕ, zero, suc, Bool, false, ◌&&◌, List, [], ◌∷◌, length}
use Rattle.std.specs.Prelude.{Option, Some, None, Result, Ok, Err, if◌then◌else◌}
use Rattle.pj_grammar.specs.Lexemes.{Lexeme}

-- the value with the lexemes behind it, or the lexemes from the first that doesn't fit on
abbrev pub Answer : Type 0 → Type 0
Answer A = Result (A × List Lexeme) (List Lexeme)

-- what reads a value from the front of lexemes
abbrev pub Parser : Type 0 → Type 0
Parser A = List Lexeme → Answer A

-- what follows an answer
abbrev pub after : {A B : Type 0} → Answer A → (A → Parser B) → Answer B
after (Ok x) next = next x.0 x.1
after (Err rest) next = Err rest

infixl 10 ◌>>=◌
-- one parser behind the other
abbrev pub ◌>>=◌ : {A B : Type 0} → Parser A → (A → Parser B) → Parser B
(first >>= second) ts = after (first ts) second

-- one lexeme
unfoldable pub one_at : {A : Type 0} → (Lexeme → Bool) → (Lexeme → A) → Parser A
one_at test view [] = Err []
one_at test view (lexeme ∷ ts) = if test lexeme then Ok (view lexeme, ts) else Err (lexeme ∷ ts)

-- no lexeme
abbrev pub nothing_at : {A : Type 0} → A → Parser A
nothing_at value ts = Ok (value, ts)

-- whether the next lexeme passes the test
unfoldable pub begins : (Lexeme → Bool) → List Lexeme → Bool
begins test [] = false
begins test (lexeme ∷ ts) = test lexeme

-- whether the next lexeme passes a test, and the one behind it another
unfoldable pub begins_both : (Lexeme → Bool) → (Lexeme → Bool) → List Lexeme → Bool
begins_both test other [] = false
begins_both test other (lexeme ∷ ts) = test lexeme && begins other ts

-- by the first parser where the next lexeme passes the test, else by the second
abbrev pub or_at : {A : Type 0} → (Lexeme → Bool) → Parser A → Parser A → Parser A
or_at test first second ts = if begins test ts then first ts else second ts

-- by the first parser where the next two lexemes pass their tests, else by the second
abbrev pub ahead_at : {A : Type 0} → (Lexeme → Bool) → (Lexeme → Bool) → Parser A → Parser A → Parser A
ahead_at test other first second ts = if begins_both test other ts then first ts else second ts

-- one value where the next lexeme passes the test, and those behind it by others
abbrev pub many_with : {A : Type 0} → ℕ → (Lexeme → Bool) → Parser A → Parser (List A)
many_with zero test first ts = Ok ([], ts)
many_with (suc most) test first ts =
    if begins test ts then after (first ts)
    (λ value. many_with most test first >>= λ more. nothing_at (value ∷ more)) else Ok ([], ts)

-- none or more, as long as the next lexeme passes the test
abbrev pub many_at : {A : Type 0} → (Lexeme → Bool) → Parser A → Parser (List A)
many_at test first ts = many_with (length ts) test first ts

-- one where the next lexeme passes the test
abbrev pub optional_at : {A : Type 0} → (Lexeme → Bool) → Parser A → Parser (Option A)
optional_at test first = or_at test (first >>= λ value. nothing_at (Some value)) (nothing_at None)
