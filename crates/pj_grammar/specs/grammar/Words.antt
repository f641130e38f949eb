-- Words, signs, numbers and texts of the grammar, and lists of them (docs/GRAMMAR.md, "Statements").
use Rattle.std.specs.Prelude.{ℕ, Bool, List, [], ◌∷◌, Option, Some, None, nat_le}
use Rattle.pj_lex.specs.declared.token.Symbol.{Symbol}
use Rattle.pj_lex.specs.declared.token.Symbol.TheVariants.{Left, Right, Comma}
use Rattle.pj_grammar.specs.Lexemes.{no_value, bytes_of, number_of, is_word, is_number, is_symbol, may_name}
use Rattle.pj_grammar.specs.Lexemes.{may_name_list, may_name_but_if, may_name_list_but_if, names_function}
use Rattle.pj_grammar.specs.Lexemes.{is_keyword, is_exactly, is_any_number, is_any_text, is_text_exactly}
use Rattle.pj_grammar.specs.grammar.Ebnf.{Grammar, One, Nothing, ◌>>=◌, many}

-- the keyword of these capitals, in any letter case
abbrev pub keyword : List ℕ → Grammar (Unit {0})
keyword capitals = One (is_keyword capitals) no_value

-- the word exactly
abbrev pub exactly : List ℕ → Grammar (Unit {0})
exactly bytes = One (is_exactly bytes) no_value

-- the symbol
abbrev pub sign : Symbol → Grammar (Unit {0})
sign symbol = One (is_symbol symbol) no_value

-- a word that passes the test
abbrev pub word_that : (List ℕ → Bool) → Grammar (List ℕ)
word_that test = One (is_word test) bytes_of

-- a name
abbrev pub name : Grammar (List ℕ)
name = word_that may_name

-- a name before a parenthesis
abbrev pub list_name : Grammar (List ℕ)
list_name = word_that may_name_list

-- a name where the keyword IF may stand
abbrev pub name_but_if : Grammar (List ℕ)
name_but_if = word_that may_name_but_if

-- a name before a parenthesis, where the keyword IF may stand
abbrev pub list_name_but_if : Grammar (List ℕ)
list_name_but_if = word_that may_name_list_but_if

-- a function's word, where no parenthesis follows
abbrev pub function_name : Grammar (List ℕ)
function_name = word_that names_function

-- a number that passes the test
abbrev pub number_that : (ℕ → Bool) → Grammar ℕ
number_that test = One (is_number test) number_of

-- number
abbrev pub number : Grammar ℕ
number = One is_any_number number_of

-- positive = number of at least 1
abbrev pub positive : Grammar ℕ
positive = number_that (λ n. nat_le 1 n)

-- text
abbrev pub text : Grammar (List ℕ)
text = One is_any_text bytes_of

-- the text exactly
abbrev pub text_exactly : List ℕ → Grammar (Unit {0})
text_exactly bytes = One (is_text_exactly bytes) no_value

-- what the rule spells, as this value
abbrev pub means : {A : Type 0} → Grammar (Unit {0}) → A → Grammar A
means rule value = do
  _ ← rule
  Nothing value

-- the rule behind a first one
abbrev pub behind : {A : Type 0} → Grammar (Unit {0}) → Grammar A → Grammar A
behind first rule = do
  _ ← first
  rule

-- one or more, with commas between them
abbrev pub listed : {A : Type 0} → Grammar A → Grammar (List A)
listed rule = do
  first ← rule
  more ← many (behind (sign Comma) rule)
  Nothing (first ∷ more)

-- in parentheses
abbrev pub in_parens : {A : Type 0} → Grammar A → Grammar A
in_parens rule = do
  _ ← sign Left
  value ← rule
  _ ← sign Right
  Nothing value

-- the list, empty where there is none
abbrev pub or_empty : {A : Type 0} → Option (List A) → List A
or_empty None = []
or_empty (Some list) = list
