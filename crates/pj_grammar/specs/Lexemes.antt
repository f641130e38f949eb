-- Lexemes: the tokens of a body, as the grammar sees them.
use Rattle.std.specs.Prelude.{ℕ, ◌≤◌, Bool, true, false, ◌&&◌, ◌||◌, not, List, [], ◌∷◌}
use Rattle.std.specs.Prelude.{map, length, slice_range, nat_eq, codes}
use Rattle.std.specs.List.{list_any}
use Rattle.std.specs.Cmp.Lexicographic.{pointwise}
use denote.Enum.Bare.{sameb}
use Rattle.pj_lex.specs.declared.token.Symbol.{Symbol}
use Rattle.pj_lex.specs.contracts.token.Symbol.{the_type}
use Rattle.pj_lex.specs.declared.token.TokenKind.{TokenKind}
use Rattle.pj_lex.specs.declared.token.TokenKind.TheVariants as kinds
use Rattle.pj_lex.specs.declared.token.Token.{Token}
use Rattle.pj_lex.specs.Bytes.{upper}

-- a word by its bytes, a number, a text by its value, a symbol
pub data Lexeme : Type 0 where
  word : List ℕ → Lexeme
  number : ℕ → Lexeme
  text : List ℕ → Lexeme
  symbol : Symbol → Lexeme

-- what a token of this kind is, whose bytes are these
abbrev pub lexeme_of : List ℕ → TokenKind → Lexeme
lexeme_of bytes kinds.Word = word bytes
lexeme_of bytes (kinds.Number n) = number n
lexeme_of bytes (kinds.Text t) = text t
lexeme_of bytes (kinds.Symbol s) = symbol s

-- a token of the body
abbrev pub lexeme : List ℕ → Token → Lexeme
lexeme body token = lexeme_of (slice_range body token.at token.end) token.kind

-- tokens of the body
abbrev pub lexemes : List ℕ → List Token → List Lexeme
lexemes body tokens = map (lexeme body) tokens

-- the token's bytes lie in the body
abbrev pub LiesIn : List ℕ → Token → Type 0
LiesIn body token = (token.at ≤ token.end) × (token.end ≤ length body)

-- ---- what is taken of a lexeme, where it is there

-- nothing
abbrev pub no_value : Lexeme → Unit {0}
no_value lexeme = tt

-- the bytes of a word or a text
abbrev pub bytes_of : Lexeme → List ℕ
bytes_of (word bytes) = bytes
bytes_of (number n) = []
bytes_of (text bytes) = bytes
bytes_of (symbol s) = []

-- the number
abbrev pub number_of : Lexeme → ℕ
number_of (word bytes) = 0
number_of (number n) = n
number_of (text bytes) = 0
number_of (symbol s) = 0

-- ---- tests of a lexeme

-- the two texts are the same
abbrev pub same : List ℕ → List ℕ → Bool
same a b = pointwise nat_eq a b

-- a word that passes the test
abbrev pub is_word : (List ℕ → Bool) → Lexeme → Bool
is_word test (word bytes) = test bytes
is_word test (number n) = false
is_word test (text bytes) = false
is_word test (symbol s) = false

-- a number that passes the test
abbrev pub is_number : (ℕ → Bool) → Lexeme → Bool
is_number test (word bytes) = false
is_number test (number n) = test n
is_number test (text bytes) = false
is_number test (symbol s) = false

-- a text that passes the test
abbrev pub is_text : (List ℕ → Bool) → Lexeme → Bool
is_text test (word bytes) = false
is_text test (number n) = false
is_text test (text bytes) = test bytes
is_text test (symbol s) = false

-- this symbol, as the `==` that is derived for symbols tells
abbrev pub is_symbol : Symbol → Lexeme → Bool
is_symbol s (word bytes) = false
is_symbol s (number n) = false
is_symbol s (text bytes) = false
is_symbol s (symbol t) = sameb the_type s t

-- ---- tests of words

-- in any letter case, the word is this one of capitals
abbrev pub spells : List ℕ → List ℕ → Bool
spells capitals bytes = same (map upper bytes) capitals

-- the words that are no names, in any letter case
abbrev pub reserved : List (List ℕ)
reserved =
    codes "SELECT" ∷ codes "FROM" ∷ codes "WHERE" ∷ codes "GROUP" ∷ codes "ORDER" ∷ codes "BY" ∷ codes "LIMIT"
    ∷ codes "SETTINGS"
    ∷ codes "AS" ∷ codes "AND" ∷ codes "OR" ∷ codes "NOT" ∷ codes "ASC" ∷ codes "DESC" ∷ codes "PROJECTION"
    ∷ []

-- the functions that any letter case names
abbrev pub functions : List (List ℕ)
functions = codes "COUNT" ∷ codes "SUM" ∷ codes "MIN" ∷ codes "MAX" ∷ []

-- the functions that are read exactly
abbrev pub exact_functions : List (List ℕ)
exact_functions = codes "uniqExact" ∷ codes "intDiv" ∷ []

-- the word can be a name
unfoldable pub may_name : List ℕ → Bool
may_name bytes = not (list_any (λ capitals. spells capitals bytes) reserved)

-- the word names a function
unfoldable pub names_function : List ℕ → Bool
names_function bytes =
    list_any (λ capitals. spells capitals bytes) functions || list_any
    (λ exact. same bytes exact) exact_functions

-- a name before a parenthesis: no function's
abbrev pub may_name_list : List ℕ → Bool
may_name_list bytes = may_name bytes && not (names_function bytes)

-- the word isn't IF, the keyword
abbrev pub is_not_if : List ℕ → Bool
is_not_if bytes = not (spells (codes "IF") bytes)

-- a name where the keyword IF may stand
abbrev pub may_name_but_if : List ℕ → Bool
may_name_but_if bytes = may_name bytes && is_not_if bytes

-- a name before a parenthesis, where the keyword IF may stand
abbrev pub may_name_list_but_if : List ℕ → Bool
may_name_list_but_if bytes = may_name_list bytes && is_not_if bytes

-- ---- lexemes of the grammar

-- the keyword of these capitals, in any letter case
abbrev pub is_keyword : List ℕ → Lexeme → Bool
is_keyword capitals = is_word (spells capitals)

-- the word exactly
abbrev pub is_exactly : List ℕ → Lexeme → Bool
is_exactly bytes = is_word (λ w. same w bytes)

-- a function's word
abbrev pub is_function_name : Lexeme → Bool
is_function_name = is_word names_function

-- a number
abbrev pub is_any_number : Lexeme → Bool
is_any_number = is_number (λ n. true)

-- a text
abbrev pub is_any_text : Lexeme → Bool
is_any_text = is_text (λ t. true)

-- the text exactly
abbrev pub is_text_exactly : List ℕ → Lexeme → Bool
is_text_exactly bytes = is_text (λ t. same t bytes)

-- the word of an aggregate function
abbrev pub is_aggregate : Lexeme → Bool
is_aggregate lexeme =
    is_keyword (codes "COUNT") lexeme
    || (is_keyword (codes "SUM") lexeme
    || (is_keyword (codes "MIN") lexeme ||
    (is_keyword (codes "MAX") lexeme || is_exactly (codes "uniqExact") lexeme)))
