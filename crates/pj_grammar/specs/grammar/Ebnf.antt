-- How a rule of the grammar is written: a relation between a list of lexemes and the value that they spell.
use Rattle.std.specs.Prelude.{◌≡◌, ◌⊎◌, Bool, true, List, [], ◌∷◌, ◌++◌, Option, Some, None}
use Rattle.pj_grammar.specs.Lexemes.{Lexeme}

-- which lexemes spell which value
abbrev pub Grammar : Type 0 → Type 1
Grammar A = List Lexeme → A → Type 0

-- one lexeme that passes the test, and what is taken of it
pub record One {A : Type 0} (test : Lexeme → Bool) (view : Lexeme → A) (ts : List Lexeme)
    (value : A) : Type 0 where
  pub lexeme : Lexeme
  pub only : ts ≡ lexeme ∷ []
  pub passes : test lexeme ≡ true
  pub taken : value ≡ view lexeme

-- no lexeme, and this value
pub record Nothing {A : Type 0} (value : A) (ts : List Lexeme) (found : A) : Type 0 where
  pub empty : ts ≡ []
  pub is : found ≡ value

-- some lexemes by a first rule, and those behind them by a second one that knows the first one's value
pub record Then {A B : Type 0} (first : Grammar A) (second : A → Grammar B) (ts : List Lexeme)
    (value : B) : Type 0 where
  pub front : List Lexeme
  pub back : List Lexeme
  pub found : A
  pub all : ts ≡ front ++ back
  pub one : first front found
  pub other : second found back value

infixl 10 ◌>>=◌
-- one rule behind the other
abbrev pub ◌>>=◌ : {A B : Type 0} → Grammar A → (A → Grammar B) → Grammar B
(first >>= second) ts value = Then first second ts value

infixr 5 ◌or◌
-- by one rule or the other
abbrev pub ◌or◌ : {A : Type 0} → Grammar A → Grammar A → Grammar A
(first or second) ts value = first ts value ⊎ second ts value

-- none or more
abbrev pub many : {A : Type 0} → Grammar A → Grammar (List A)
many rule ts [] = ts ≡ []
many rule ts (value ∷ more) =
    (front : List Lexeme) × (back : List Lexeme) × (ts ≡ front ++ back) × rule front value
    × many rule back more

-- one or none
abbrev pub optional : {A : Type 0} → Grammar A → Grammar (Option A)
optional rule = (rule >>= λ value. Nothing (Some value)) or Nothing None
