-- Kinds of lexemes: the finest classes that the tests of the grammar tell apart, as numbers, and sets of
-- them. No number is written down: the kind of a word, a text or a symbol comes of its index in a list, so a
-- new word is a change of its list alone.
use Prim.Native.String.{String}
use Rattle.std.proofs.Common.{ℕ, zero, suc, ◌+◌, Bool, true, false, cond}
use Rattle.std.proofs.Common.{ltb, eqb, leb, List, [], ◌∷◌, ◌++◌, map, length}
use Rattle.std.specs.Prelude.{codes, ◌&&◌, ◌||◌, not}
use Rattle.pj_lex.specs.Bytes.{upper}
use Rattle.pj_lex.specs.declared.token.Symbol.{Symbol}
use denote.Enum.Declared.{variants, tag_of}
use Rattle.pj_lex.specs.contracts.token.Symbol.{the_type}
use Rattle.pj_grammar.specs.Lexemes as lexemes
use Rattle.pj_grammar.specs.Lexemes.{Lexeme, reserved, functions, exact_functions, same}

-- the words that are read in any letter case
abbrev pub keywords : List (List ℕ)
keywords =
    reserved
    ++ functions
    ++ codes "EXPLAIN" ∷ codes "PLAN" ∷ codes "OPTIMIZE" ∷ codes "TABLE" ∷ codes "FINAL" ∷ codes "SET"
    ∷ codes "MERGE" ∷ codes "MUTATE"
    ∷ codes "CREATE" ∷ codes "ENGINE" ∷ codes "INSERT" ∷ codes "INTO" ∷ codes "VALUES" ∷ codes "DELETE"
    ∷ codes "ALTER" ∷ codes "ADD"
    ∷ codes "DROP" ∷ codes "MATERIALIZE" ∷ codes "CLEAR" ∷ codes "UPDATE" ∷ codes "MODIFY" ∷ codes "SETTING"
    ∷ codes "IF" ∷ codes "EXISTS" ∷ []

-- the words that are read exactly
abbrev pub exact_words : List (List ℕ)
exact_words =
    exact_functions
    ++ codes "UInt64" ∷ codes "String" ∷ codes "MergeTree" ∷ codes "index_granularity"
    ∷ codes "lightweight_mutation_projection_mode"
    ∷ codes "optimize_use_projections" ∷ codes "force_optimize_projection" ∷ codes "mutations_sync" ∷ []

-- the texts that name a mode
abbrev pub modes : List (List ℕ)
modes = codes "throw" ∷ codes "drop" ∷ codes "rebuild" ∷ []

-- the index of a text in a list, or the list's length
abbrev pub index_of : List (List ℕ) → List ℕ → ℕ
index_of [] bytes = 0
index_of (one ∷ more) bytes = cond (same bytes one) 0 (suc (index_of more bytes))

-- how many keywords there are, and words that are read exactly
abbrev pub keyword_count : ℕ
keyword_count = length keywords

abbrev pub exact_count : ℕ
exact_count = length exact_words

-- where the kinds of numbers, of texts and of symbols begin: behind those of the keywords, of the words that
-- are read exactly and of any other word; behind four sizes; behind the modes and any other text
abbrev pub numbers_from : ℕ
numbers_from = suc (keyword_count + exact_count)

abbrev pub texts_from : ℕ
texts_from = numbers_from + 4

abbrev pub symbols_from : ℕ
symbols_from = suc (texts_from + length modes)

-- how many symbols there are, and kinds
abbrev pub symbol_count : ℕ
symbol_count = length (variants the_type)

abbrev pub kind_count : ℕ
kind_count = symbols_from + symbol_count

-- the kind of a word whose capitals have this index among the keywords
abbrev pub word_kind : ℕ → List ℕ → ℕ
word_kind at bytes = cond (ltb at keyword_count) at (keyword_count + index_of exact_words bytes)

-- 0, 1, 2 to 65,536, larger
abbrev pub size_kind : ℕ → ℕ
size_kind n = cond (eqb n 0) 0 (cond (eqb n 1) 1 (cond (leb n 65536) 2 3))

-- the kind of a lexeme
unfoldable pub kind_of : Lexeme → ℕ
kind_of (lexemes.word bytes) = word_kind (index_of keywords (map upper bytes)) bytes
kind_of (lexemes.number n) = numbers_from + size_kind n
kind_of (lexemes.text bytes) = texts_from + index_of modes bytes
kind_of (lexemes.symbol s) = symbols_from + tag_of the_type s

-- ---- sets

-- a set of kinds
abbrev pub Kinds : Type 0
Kinds = ℕ → Bool

-- no kind, one kind, kinds from one on below another
abbrev pub none : Kinds
none k = false

abbrev pub just : ℕ → Kinds
just a k = eqb k a

abbrev pub between : ℕ → ℕ → Kinds
between a b k = leb a k && ltb k b

-- the kinds of two sets, those of the first but not the second, and the second set where a flag is set
infixr 5 ◌∪◌
abbrev pub ◌∪◌ : Kinds → Kinds → Kinds
(a ∪ b) k = a k || b k

infixl 6 ◌∖◌
abbrev pub ◌∖◌ : Kinds → Kinds → Kinds
(a ∖ b) k = a k && not (b k)

abbrev pub when : Bool → Kinds → Kinds
when flag a k = flag && a k

-- the kind of a keyword, of a word that is read exactly, of a text that names a mode, of a symbol, of the
-- numbers of one size
abbrev pub keyword : String → Kinds
keyword capitals = just (index_of keywords (codes capitals))

abbrev pub exactly : String → Kinds
exactly bytes = just (keyword_count + index_of exact_words (codes bytes))

abbrev pub text_exactly : String → Kinds
text_exactly bytes = just (texts_from + index_of modes (codes bytes))

abbrev pub sign : Symbol → Kinds
sign s = just (symbols_from + tag_of the_type s)

abbrev pub size : ℕ → Kinds
size n = just (numbers_from + size_kind n)

-- words, and those that can be names; words that name functions
abbrev pub word : Kinds
word k = ltb k numbers_from

abbrev pub name : Kinds
name = between (length reserved) numbers_from

abbrev pub function_name : Kinds
function_name =
    between (length reserved) (length reserved + length functions)
    ∪ between keyword_count (keyword_count + length exact_functions)

-- names that name no function, and names but IF
abbrev pub list_name : Kinds
list_name = name ∖ function_name

abbrev pub name_but_if : Kinds
name_but_if = name ∖ keyword "IF"

abbrev pub list_name_but_if : Kinds
list_name_but_if = list_name ∖ keyword "IF"

-- numbers, those above 0, and those of rows of a granule
abbrev pub number : Kinds
number = between numbers_from texts_from

abbrev pub positive : Kinds
positive = number ∖ size 0

abbrev pub granule : Kinds
granule = size 1 ∪ size 2

-- texts
abbrev pub text : Kinds
text = between texts_from symbols_from

-- ---- tests that compute

-- the test holds below a number
abbrev pub all_below : ℕ → Kinds → Bool
all_below zero test = true
all_below (suc n) test = test n && all_below n test

-- no kind is in both sets
abbrev pub apart : Kinds → Kinds → Bool
apart a b = all_below kind_count (λ k. not (a k && b k))

-- the sets have the same kinds
abbrev pub agree : Kinds → Kinds → Bool
agree a b = all_below kind_count (λ k. cond (a k) (b k) (not (b k)))

-- each kind of the first set is in the second
abbrev pub within : Kinds → Kinds → Bool
within a b = all_below kind_count (λ k. not (a k) || b k)
