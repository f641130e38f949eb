-- How words, signs, numbers, texts and lists are read. Of public contracts those of `pj_phrase` and
-- `pj_sentence` alone cite it.
use Rattle.std.specs.Prelude.{ℕ, Bool, List, ◌∷◌, nat_le}
use Rattle.pj_lex.specs.declared.token.Symbol.{Symbol}
use Rattle.pj_lex.specs.declared.token.Symbol.TheVariants.{Left, Right, Comma}
use Rattle.pj_grammar.specs.Lexemes.{no_value, bytes_of, number_of, is_word, is_number, is_symbol, may_name}
use Rattle.pj_grammar.specs.Lexemes.{may_name_list, may_name_but_if, may_name_list_but_if, names_function}
use Rattle.pj_grammar.specs.Lexemes.{is_keyword, is_exactly, is_any_number, is_any_text, is_text_exactly}
use Rattle.pj_grammar.specs.parsing.Parser.{Parser, ◌>>=◌, one_at, nothing_at, many_at}

-- a keyword
abbrev pub keyword_at : List ℕ → Parser (Unit {0})
keyword_at capitals = one_at (is_keyword capitals) no_value

-- a word exactly
abbrev pub exactly_at : List ℕ → Parser (Unit {0})
exactly_at bytes = one_at (is_exactly bytes) no_value

-- a symbol
abbrev pub sign_at : Symbol → Parser (Unit {0})
sign_at symbol = one_at (is_symbol symbol) no_value

-- a word that passes the test
abbrev pub word_that_at : (List ℕ → Bool) → Parser (List ℕ)
word_that_at test = one_at (is_word test) bytes_of

-- a name
abbrev pub name_at : Parser (List ℕ)
name_at = word_that_at may_name

-- a name before a parenthesis
abbrev pub list_name_at : Parser (List ℕ)
list_name_at = word_that_at may_name_list

-- a name where the keyword IF may stand
abbrev pub name_but_if_at : Parser (List ℕ)
name_but_if_at = word_that_at may_name_but_if

-- a name before a parenthesis, where the keyword IF may stand
abbrev pub list_name_but_if_at : Parser (List ℕ)
list_name_but_if_at = word_that_at may_name_list_but_if

-- a function's word
abbrev pub function_name_at : Parser (List ℕ)
function_name_at = word_that_at names_function

-- a number that passes the test
abbrev pub number_that_at : (ℕ → Bool) → Parser ℕ
number_that_at test = one_at (is_number test) number_of

-- a number
abbrev pub number_at : Parser ℕ
number_at = one_at is_any_number number_of

-- a number of at least 1
abbrev pub positive_at : Parser ℕ
positive_at = number_that_at (λ n. nat_le 1 n)

-- a text
abbrev pub text_at : Parser (List ℕ)
text_at = one_at is_any_text bytes_of

-- a text of these bytes
abbrev pub text_exactly_at : List ℕ → Parser (Unit {0})
text_exactly_at bytes = one_at (is_text_exactly bytes) no_value

-- what the parser reads, as this value
abbrev pub means_at : {A : Type 0} → Parser (Unit {0}) → A → Parser A
means_at parser value = do
  _ ← parser
  nothing_at value

-- a parser behind a first one
abbrev pub behind_at : {A : Type 0} → Parser (Unit {0}) → Parser A → Parser A
behind_at first parser = do
  _ ← first
  parser

-- one or more, with commas between them
abbrev pub listed_at : {A : Type 0} → Parser A → Parser (List A)
listed_at parser = do
  first ← parser
  more ← many_at (is_symbol Comma) (behind_at (sign_at Comma) parser)
  nothing_at (first ∷ more)

-- in parentheses
abbrev pub in_parens_at : {A : Type 0} → Parser A → Parser A
in_parens_at parser = do
  _ ← sign_at Left
  value ← parser
  _ ← sign_at Right
  nothing_at value
