-- Tests of words, as sets of the kinds of words.
use Rattle.std.proofs.Common.{◌≡◌, ℕ, suc, ◌+◌, ◌<◌, ◌≤◌, ◌⊎◌, Bool, true, false, cond, ltb, eqb}
use Rattle.std.proofs.Common.{List, [], ◌∷◌, length, map, refl, sym, ap, ◌∙◌, subst, inl, inr, arith}
use Rattle.std.specs.Prelude.{◌&&◌, ◌||◌, not, codes}
use Rattle.std.specs.List.{list_any, list_all}
use Rattle.std.specs.Cmp.Lexicographic.{bytes_decides}
use Rattle.std.proofs.lemmas.Bool.{and_parts, and_left, ltb-true, lt-ltb, le-ltb, eqb-true, eq-eqb}
use Rattle.pj_lex.specs.Bytes.{upper}
use Rattle.pj_grammar.specs.Lexemes.{Lexeme, word, number, text, symbol, same, is_word, spells, reserved}
use Rattle.pj_grammar.specs.Lexemes.{functions, exact_functions, may_name, names_function}
use Rattle.pj_grammar.proofs.kinds.Sets.{keywords, exact_words, index_of, keyword_count, exact_count}
use Rattle.pj_grammar.proofs.kinds.Sets.{numbers_from, word_kind, kind_of, Kinds, just, ◌∪◌, agree}
use Rattle.pj_grammar.proofs.kinds.Sets as kinds
use Rattle.pj_grammar.proofs.kinds.SetLemmas.{index_of_most, word_below, number_from, text_from, symbol_from}
use Rattle.pj_grammar.proofs.kinds.SetLemmas.{agree-is}

-- ---- texts and their indexes in a list

-- two tests that hold together are one
one_test : (x y : Bool) → (x ≡ true → y ≡ true) → (y ≡ true → x ≡ true) → x ≡ y
one_test true y f g = sym (f refl)
one_test false true f g = g refl
one_test false false f g = refl

same_true : (a b : List ℕ) → same a b ≡ true → a ≡ b
same_true a b = (bytes_decides a b).0

pub same_is : (a b : List ℕ) → a ≡ b → same a b ≡ true
same_is a b = (bytes_decides a b).1

-- the order of two texts doesn't matter
same_flip : (a b : List ℕ) → same a b ≡ same b a
same_flip a b =
    one_test (same a b) (same b a)
    (λ e. same_is b a (sym (same_true a b e)))
    (λ e. same_is a b (sym (same_true b a e)))

-- equal indexes, by the step of each
steps :
    (x y : Bool) (p q n : ℕ) → cond x 0 (suc p) < suc n → cond x 0 (suc p) ≡ cond y 0 (suc q)
    → ((x ≡ true) × (y ≡ true)) ⊎ ((p < n) × (p ≡ q))
steps true true p q n under e = inl (refl, refl)
steps true false p q n under e = absurd (omega arith)
steps false true p q n under e = absurd (omega arith)
steps false false p q n under e = inr (omega arith, omega arith)

-- texts of one index in a list are equal
index_of_one :
    (texts : List (List ℕ)) (a b : List ℕ) → index_of texts a < length texts → index_of texts a
    ≡ index_of texts b
    → a ≡ b
index_of_one [] a b under e = absurd (omega arith)
index_of_one (one ∷ more) a b under e =
    elim (steps (same a one) (same b one) (index_of more a) (index_of more b) (length more) under e) [
      | inl h ↦ same_true a one h.0 ∙ sym (same_true b one h.1)
      | inr h ↦ index_of_one more a b h.0 h.1
    ]

-- a text is one of a list where it has its index
pub same_index :
    (texts : List (List ℕ)) (a b : List ℕ) → index_of texts b < length texts
    → same a b ≡ eqb (index_of texts a) (index_of texts b)
same_index texts a b under =
    one_test (same a b) (eqb (index_of texts a) (index_of texts b))
    (λ e. eq-eqb _ _ (ap (index_of texts) (same_true a b e)))
    (λ e. same_is a b (sym (index_of_one texts b a under (sym (eqb-true (index_of texts a)
    (index_of texts b) e)))))

-- ---- tests of words

-- the test of words is this set of their kinds
abbrev pub Tells : (List ℕ → Bool) → Kinds → Type 0
Tells test set = (bytes : List ℕ) → test bytes ≡ set (kind_of (word bytes))

-- a text is one of the list
abbrev pub is_one_of : List (List ℕ) → List ℕ → Bool
is_one_of texts bytes = ltb (index_of texts bytes) (length texts)

-- a keyword's kind is its index, and no other word has it
word_kind_keyword : (n at p k : ℕ) → k < n → eqb (cond (ltb at n) at (n + p)) k ≡ eqb at k
word_kind_keyword n at p k under = grind arith

-- at a keyword
pub keyword_tells :
    (capitals : List ℕ) → is_one_of keywords capitals ≡ true → Tells (spells capitals)
    (just (index_of keywords capitals))
unfolding kind_of
keyword_tells capitals known bytes =
    let above = index_of keywords (map upper bytes) in
    let under = ltb-true (index_of keywords capitals) keyword_count known in
    same_index keywords (map upper bytes) capitals under
    ∙ sym (word_kind_keyword keyword_count above (index_of exact_words bytes)
    (index_of keywords capitals) under)

-- behind the keywords, the kind of a word that is read exactly is its index, and no other word has it
word_kind_exact :
    (n at p k : ℕ) → (p ≡ k → at ≡ n) → at ≤ n → eqb (cond (ltb at n) at (n + p)) (n + k) ≡ eqb p k
word_kind_exact n at p k h most = grind arith

-- the word is read exactly, and its capitals are no keyword
abbrev pub is_exact : List ℕ → Bool
is_exact bytes = is_one_of exact_words bytes && not (is_one_of keywords (map upper bytes))

-- an index that isn't below the list's length is that
not_below : (a n : ℕ) → a ≤ n → not (ltb a n) ≡ true → a ≡ n
not_below a n most h = grind arith

-- at a word that is read exactly
pub exact_tells :
    (exact : List ℕ) → is_exact exact ≡ true → Tells (λ bytes. same bytes exact)
    (just (keyword_count + index_of exact_words exact))
unfolding kind_of
exact_tells exact known bytes =
    let parts = and_parts (is_one_of exact_words exact) (not (is_one_of keywords (map upper exact))) known in
    let under = ltb-true (index_of exact_words exact) exact_count parts.0 in
    let free = not_below (index_of keywords (map upper exact)) keyword_count
    (index_of_most keywords (map upper exact)) parts.1 in
    same_index exact_words bytes exact under
    ∙ sym (word_kind_exact keyword_count (index_of keywords (map upper bytes)) (index_of exact_words bytes)
    (index_of exact_words exact)
    (λ e. subst (λ t. index_of keywords (map upper t) ≡ keyword_count)
    (index_of_one exact_words exact bytes under (sym e)) free)
    (index_of_most keywords (map upper bytes)))

-- ---- at words that can be names, and at those that name functions

-- one of these kinds
abbrev pub among : List ℕ → Kinds
among [] k = false
among (one ∷ more) k = eqb k one || among more k

-- at one of several keywords
pub any_tells :
    (texts : List (List ℕ)) → list_all (is_one_of keywords) texts ≡ true
    → Tells (λ bytes. list_any (λ t. spells t bytes) texts) (among (map (index_of keywords) texts))
any_tells [] known bytes = refl
any_tells (one ∷ more) known bytes =
    let parts = and_parts (is_one_of keywords one) (list_all (is_one_of keywords) more) known in
    λ i. keyword_tells one parts.0 bytes i || any_tells more parts.1 bytes i

-- at one of several words that are read exactly
pub any_exact_tells :
    (texts : List (List ℕ)) → list_all is_exact texts ≡ true
    → Tells (λ bytes. list_any (λ t. same bytes t) texts)
    (among (map (λ t. keyword_count + index_of exact_words t) texts))
any_exact_tells [] known bytes = refl
any_exact_tells (one ∷ more) known bytes =
    let parts = and_parts (is_exact one) (list_all is_exact more) known in
    λ i. exact_tells one parts.0 bytes i || any_exact_tells more parts.1 bytes i

-- the kinds of these words, by the lists
abbrev pub may_be : Kinds
may_be k = not (among (map (index_of keywords) reserved) k)

abbrev pub function_is : Kinds
function_is =
    among (map (index_of keywords) functions) ∪ among
    (map (λ t. keyword_count + index_of exact_words t) exact_functions)

-- at words that can be names
pub may_name_tells : Tells may_name may_be
unfolding may_name
may_name_tells bytes = ap not (any_tells reserved refl bytes)

-- at words that name functions
pub names_function_tells : Tells names_function function_is
unfolding names_function
names_function_tells bytes =
    λ i. any_tells functions refl bytes i || any_exact_tells exact_functions refl bytes i

-- ---- at any lexeme

-- a test of words is false at any other lexeme
pub is_word_tells :
    (test : List ℕ → Bool) (set : Kinds) → Tells test set → (l : Lexeme)
    → is_word test l ≡ (kinds.word (kind_of l) && set (kind_of l))
is_word_tells test set h (word bytes) =
    rw (lt-ltb (kind_of (word bytes)) numbers_from (word_below bytes)) (h bytes)
is_word_tells test set h (number n) =
    sym (and_left _ _ (le-ltb (kind_of (number n)) numbers_from (number_from n)))
is_word_tells test set h (text t) =
    sym (and_left _ _ (le-ltb (kind_of (text t)) numbers_from (omega (arith, text_from t))))
is_word_tells test set h (symbol s) =
    sym (and_left _ _ (le-ltb (kind_of (symbol s)) numbers_from (omega (arith, symbol_from s))))

-- a test of words is each set that has the same kinds of words
pub is_word_set :
    (test : List ℕ → Bool) (these set : Kinds) → Tells test these
    → agree (λ k. kinds.word k && these k) set ≡ true → (l : Lexeme) → is_word test l ≡ set (kind_of l)
is_word_set test these set h alike l =
    is_word_tells test these h l ∙ agree-is (λ k. kinds.word k && these k) set alike l
