-- Each test of the grammar is a set of kinds.
use Prim.Native.String.{String}
use Rattle.std.proofs.Common.{◌≡◌, ℕ, ◌+◌, ◌<◌, ◌≤◌, Bool, true, ltb, eqb, leb, List, length}
use Rattle.std.proofs.Common.{map, refl, sym, ap, ◌∙◌, subst, inl, inr, arith}
use Rattle.std.specs.Prelude.{◌&&◌, not, nat_le, ◌==◌, codes}
use Rattle.std.proofs.lemmas.Bool.{and_parts, and_left, and_right, and_from, cases_Bool, ltb-true, lt-ltb}
use Rattle.std.proofs.lemmas.Bool.{le-ltb}
use Rattle.std.proofs.lemmas.Bool.{le-leb, lt-leb, leb-true, leb-false, eqb-true, eqb-false, ne_eqb}
use Rattle.pj_lex.specs.Bytes.{upper}
use Rattle.pj_lex.specs.declared.token.Symbol.{Symbol}
use denote.Enum.Declared.{tag_of}
use Rattle.pj_lex.specs.contracts.token.Symbol.{the_type}
use Rattle.pj_grammar.specs.Lexemes.{Lexeme, word, number, text, symbol, same, is_word, is_number, is_text}
use Rattle.pj_grammar.specs.Lexemes.{is_symbol, spells, may_name, names_function, may_name_list}
use Rattle.pj_grammar.specs.Lexemes.{may_name_but_if, may_name_list_but_if, is_keyword, is_exactly}
use Rattle.pj_grammar.specs.Lexemes.{is_function_name, is_any_number, is_any_text, is_text_exactly}
use Rattle.pj_grammar.proofs.kinds.Sets as kinds
use Rattle.pj_grammar.proofs.kinds.Sets.{keywords, exact_words, modes, index_of, keyword_count, exact_count}
use Rattle.pj_grammar.proofs.kinds.Sets.{numbers_from, texts_from, symbols_from, size_kind, kind_of, Kinds}
use Rattle.pj_grammar.proofs.kinds.Sets.{◌∖◌, agree}
use Rattle.pj_grammar.proofs.kinds.Words.{same_index, Tells, is_one_of, keyword_tells, is_exact, exact_tells}
use Rattle.pj_grammar.proofs.kinds.Words.{may_be, may_name_tells, function_is, names_function_tells}
use Rattle.pj_grammar.proofs.kinds.Words.{is_word_tells, is_word_set}
use Rattle.pj_grammar.proofs.kinds.SetLemmas.{word_below, number_from, number_below, text_from, text_below}
use Rattle.pj_grammar.proofs.kinds.SetLemmas.{symbol_from, agree-is}

-- ---- words

-- one kind of words is a kind of words
word_just : (n j k : ℕ) → k < n → (ltb j n && eqb j k) ≡ eqb j k
word_just n j k under = grind arith

-- a keyword
pub keyword_kind :
    (capitals : String) → is_one_of keywords (codes capitals) ≡ true
    → (l : Lexeme) → is_keyword (codes capitals) l ≡ kinds.keyword capitals (kind_of l)
keyword_kind capitals known l =
    let under = ltb-true (index_of keywords (codes capitals)) keyword_count known in
    is_word_tells (spells (codes capitals)) (kinds.keyword capitals) (keyword_tells (codes capitals) known) l
    ∙ word_just numbers_from (kind_of l) (index_of keywords (codes capitals)) (omega arith)

-- a word that is read exactly
pub exactly_kind :
    (bytes : String) → is_exact (codes bytes) ≡ true
    → (l : Lexeme) → is_exactly (codes bytes) l ≡ kinds.exactly bytes (kind_of l)
exactly_kind bytes known l =
    let parts = and_parts (is_one_of exact_words (codes bytes)) _ known in
    let under = ltb-true (index_of exact_words (codes bytes)) exact_count parts.0 in
    is_word_tells (λ w. same w (codes bytes)) (kinds.exactly bytes) (exact_tells (codes bytes) known) l
    ∙ word_just numbers_from (kind_of l) (keyword_count + index_of exact_words (codes bytes)) (omega arith)

-- a name
pub name_kind : (l : Lexeme) → is_word may_name l ≡ kinds.name (kind_of l)
name_kind = is_word_set may_name may_be kinds.name may_name_tells refl

-- a word that names a function
pub function_name_kind : (l : Lexeme) → is_function_name l ≡ kinds.function_name (kind_of l)
function_name_kind = is_word_set names_function function_is kinds.function_name names_function_tells refl

if_tells : Tells (spells (codes "IF")) (kinds.keyword "IF")
if_tells = keyword_tells (codes "IF") refl

-- a name that names no function
pub list_name_kind :
    (l : Lexeme) → is_word may_name_list l ≡ kinds.list_name (kind_of l)
list_name_kind =
    is_word_set may_name_list (may_be ∖ function_is) kinds.list_name
    (λ bytes i. may_name_tells bytes i && not (names_function_tells bytes i)) refl

-- a name but IF
pub name_but_if_kind :
    (l : Lexeme) → is_word may_name_but_if l ≡ kinds.name_but_if (kind_of l)
name_but_if_kind =
    is_word_set may_name_but_if (may_be ∖ kinds.keyword "IF")
    kinds.name_but_if
    (λ bytes i. may_name_tells bytes i && not (if_tells bytes i)) refl

-- a name but IF that names no function
pub list_name_but_if_kind :
    (l : Lexeme) → is_word may_name_list_but_if l
    ≡ kinds.list_name_but_if (kind_of l)
list_name_but_if_kind =
    is_word_set may_name_list_but_if
    (may_be ∖ function_is ∖ kinds.keyword "IF") kinds.list_name_but_if
    (λ bytes i. (may_name_tells bytes i && not (names_function_tells bytes i)) && not (if_tells bytes i)) refl

-- ---- numbers

-- a test of numbers is false at any other lexeme
is_number_tells :
    (test : ℕ → Bool) (set : Kinds) → ((n : ℕ) → test n ≡ set (kind_of (number n)))
    → (l : Lexeme) → is_number test l ≡ (kinds.number (kind_of l) && set (kind_of l))
is_number_tells test set h (word w) =
    sym (and_left _ _ (and_left _ _ (lt-leb numbers_from (kind_of (word w)) (word_below w))))
is_number_tells test set h (number n) =
    rw (
      le-leb numbers_from (kind_of (number n)) (number_from n),
      lt-ltb (kind_of (number n)) texts_from
          (number_below n),
    ) (h n)
is_number_tells test set h (text t) =
    sym (and_left _ _ (and_right _ _ (le-ltb (kind_of (text t)) texts_from (text_from t))))
is_number_tells test set h (symbol s) =
    sym (and_left _ _ (and_right _ _ (le-ltb (kind_of (symbol s)) texts_from (omega (arith, symbol_from s)))))

at_size :
    (test : ℕ → Bool) (set : Kinds) (m n : ℕ) → m ≡ n → test m ≡ set (numbers_from + size_kind m)
    → test n ≡ set (numbers_from + size_kind n)
at_size test set m n e h = subst (λ j. test j ≡ set (numbers_from + size_kind j)) e h

-- a test of numbers by its answers at 0, at 1, and on both sides of 65,536
pub by_size :
    (test : ℕ → Bool) (set : Kinds)
    → test 0 ≡ set (numbers_from + size_kind 0) → test 1 ≡ set (numbers_from + size_kind 1)
    → ((n : ℕ) → 2 ≤ n → n ≤ 65536 → test n ≡ set (numbers_from + size_kind 2))
    → ((n : ℕ) → 65536 < n → test n ≡ set (numbers_from + size_kind 65537))
    → (n : ℕ) → test n ≡ set (kind_of (number n))
unfolding kind_of
by_size test set zeros ones middle large n =
    elim (cases_Bool (eqb n 0)) [
      | inl e ↦ at_size test set 0 n (sym (eqb-true n 0 e)) zeros
      | inr e ↦
          elim (cases_Bool (eqb n 1)) [
            | inl f ↦ at_size test set 1 n (sym (eqb-true n 1 f)) ones
            | inr f ↦
                let not_zero = eqb-false n 0 e in
                let not_one = eqb-false n 1 f in
                elim (cases_Bool (leb n 65536)) [
                  | inl g ↦ rw (e, f, g) (middle n (omega arith) (leb-true n 65536 g))
                  | inr g ↦ rw (e, f, g) (large n (leb-false n 65536 g))
                ]
          ]
    ]

-- a test of numbers is each set that has the same kinds of numbers
pub is_number_set :
    (test : ℕ → Bool) (these set : Kinds) → ((n : ℕ) → test n ≡ these (kind_of (number n)))
    → agree (λ k. kinds.number k && these k) set ≡ true → (l : Lexeme) → is_number test l ≡ set (kind_of l)
is_number_set test these set h alike l =
    is_number_tells test these h l ∙ agree-is (λ k. kinds.number k && these k) set alike l

-- any number
pub number_kind : (l : Lexeme) → is_any_number l ≡ kinds.number (kind_of l)
number_kind = is_number_set (λ n. true) (λ k. true) kinds.number (λ n. refl) refl

-- 0
pub zero_kind : (l : Lexeme) → is_number (λ n. n == 0) l ≡ kinds.size 0 (kind_of l)
zero_kind =
    is_number_set (λ n. n == 0) (kinds.size 0) (kinds.size 0)
    (by_size (λ n. n == 0) (kinds.size 0) refl refl
    (λ n low high. ne_eqb n 0 (λ e. omega arith))
    (λ n low. ne_eqb n 0 (λ e. omega arith))) refl

-- 1
pub one_kind : (l : Lexeme) → is_number (λ n. n == 1) l ≡ kinds.size 1 (kind_of l)
one_kind =
    is_number_set (λ n. n == 1) (kinds.size 1) (kinds.size 1)
    (by_size (λ n. n == 1) (kinds.size 1) refl refl
    (λ n low high. ne_eqb n 1 (λ e. omega arith))
    (λ n low. ne_eqb n 1 (λ e. omega arith))) refl

-- a number above 0
pub positive_kind : (l : Lexeme) → is_number (λ n. nat_le 1 n) l ≡ kinds.positive (kind_of l)
positive_kind =
    is_number_set (λ n. nat_le 1 n) kinds.positive kinds.positive
    (by_size (λ n. nat_le 1 n) kinds.positive refl refl
    (λ n low high. le-leb 1 n (omega arith))
    (λ n low. le-leb 1 n (omega arith))) refl

-- a number of rows of a granule
pub granule_kind : (l : Lexeme) → is_number (λ n. nat_le 1 n && nat_le n 65536) l ≡ kinds.granule (kind_of l)
granule_kind =
    is_number_set (λ n. nat_le 1 n && nat_le n 65536) kinds.granule kinds.granule
    (by_size (λ n. nat_le 1 n && nat_le n 65536) kinds.granule refl refl
    (λ n low high. and_from (leb 1 n) (leb n 65536) (le-leb 1 n (omega arith)) (le-leb n 65536 high))
    (λ n low. and_right (leb 1 n) (leb n 65536) (lt-leb n 65536 low))) refl

-- ---- texts

-- a test of texts is false at any other lexeme
is_text_tells :
    (test : List ℕ → Bool) (set : Kinds) → ((bytes : List ℕ) → test bytes ≡ set (kind_of (text bytes)))
    → (l : Lexeme) → is_text test l ≡ (kinds.text (kind_of l) && set (kind_of l))
is_text_tells test set h (word w) =
    sym (and_left _ _ (and_left _ _ (lt-leb texts_from (kind_of (word w)) (omega (arith, word_below w)))))
is_text_tells test set h (number n) =
    sym (and_left _ _ (and_left _ _ (lt-leb texts_from (kind_of (number n)) (number_below n))))
is_text_tells test set h (text t) =
    rw (
      le-leb texts_from (kind_of (text t)) (text_from t),
      lt-ltb (kind_of (text t)) symbols_from
          (text_below t),
    ) (h t)
is_text_tells test set h (symbol s) =
    sym (and_left _ _ (and_right _ _ (le-ltb (kind_of (symbol s)) symbols_from (symbol_from s))))

-- any text
pub text_kind : (l : Lexeme) → is_any_text l ≡ kinds.text (kind_of l)
text_kind l =
    is_text_tells (λ t. true) (λ k. true) (λ t. refl) l
    ∙ agree-is (λ k. kinds.text k && true) kinds.text refl l

-- one kind of texts is a kind of texts
text_just : (m n j k : ℕ) → m ≤ k → k < n → ((leb m j && ltb j n) && eqb j k) ≡ eqb j k
text_just m n j k from under = grind arith

-- numbers are equal where they are behind one number
eqb_behind : (a b c : ℕ) → eqb (c + a) (c + b) ≡ eqb a b
eqb_behind a b c = grind arith

mode_tells :
    (bytes : String) → is_one_of modes (codes bytes) ≡ true
    → (t : List ℕ) → same t (codes bytes) ≡ kinds.text_exactly bytes (kind_of (text t))
unfolding kind_of
mode_tells bytes known t =
    same_index modes t (codes bytes) (ltb-true (index_of modes (codes bytes)) (length modes) known)
    ∙ sym (eqb_behind (index_of modes t) (index_of modes (codes bytes)) texts_from)

-- a text that names a mode
pub text_exactly_kind :
    (bytes : String) → is_one_of modes (codes bytes) ≡ true
    → (l : Lexeme) → is_text_exactly (codes bytes) l ≡ kinds.text_exactly bytes (kind_of l)
text_exactly_kind bytes known l =
    let under = ltb-true (index_of modes (codes bytes)) (length modes) known in
    is_text_tells (λ t. same t (codes bytes)) (kinds.text_exactly bytes) (mode_tells bytes known) l
    ∙ text_just texts_from symbols_from (kind_of l) (texts_from + index_of modes (codes bytes)) (omega arith)
    (omega arith)

-- ---- symbols

eqb_flip : (a b : ℕ) → eqb a b ≡ eqb b a
eqb_flip a b = grind arith

symbol_tells : (s t : Symbol) → is_symbol s (symbol t) ≡ kinds.sign s (kind_of (symbol t))
unfolding kind_of
symbol_tells s t =
    eqb_flip (tag_of the_type s) (tag_of the_type t)
    ∙ sym (eqb_behind (tag_of the_type t) (tag_of the_type s) symbols_from)

-- a symbol
pub sign_kind : (s : Symbol) (l : Lexeme) → is_symbol s l ≡ kinds.sign s (kind_of l)
sign_kind s (word w) =
    sym (ne_eqb (kind_of (word w)) (symbols_from + tag_of the_type s) (λ e. omega (arith, word_below w)))
sign_kind s (number n) =
    sym (ne_eqb (kind_of (number n)) (symbols_from + tag_of the_type s) (λ e. omega (arith, number_below n)))
sign_kind s (text t) =
    sym (ne_eqb (kind_of (text t)) (symbols_from + tag_of the_type s) (λ e. omega (arith, text_below t)))
sign_kind s (symbol t) = symbol_tells s t

-- ---- a lexeme for each test of names; for the other tests one computes by `refl`

-- a name
pub some_name : is_word may_name (word (codes "a")) ≡ true
unfolding may_name
some_name = refl

-- a word that names a function
pub some_function : is_word names_function (word (codes "SUM")) ≡ true
unfolding names_function
some_function = refl

-- a name that names no function
pub some_list_name : is_word may_name_list (word (codes "a")) ≡ true
unfolding may_name names_function
some_list_name = refl

-- a name but IF
pub some_name_but_if : is_word may_name_but_if (word (codes "a")) ≡ true
unfolding may_name
some_name_but_if = refl

-- a name but IF that names no function
pub some_list_name_but_if :
    is_word may_name_list_but_if (word (codes "a"))
    ≡ true
unfolding may_name names_function
some_list_name_but_if = refl
