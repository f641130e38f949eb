-- What the computed tests of sets of kinds say of each lexeme.
use Rattle.std.proofs.Common.{◌≡◌, ℕ, zero, suc, ◌+◌, ◌<◌, ◌≤◌, Bool, true, false, cond, ltb, eqb, leb}
use Rattle.std.proofs.Common.{List, [], ◌∷◌, length, map, refl, sym, subst, inl, inr, arith}
use Rattle.std.specs.Prelude.{◌&&◌, ◌||◌, not}
use Rattle.std.proofs.lemmas.Bool.{and_parts, cases_lt, cond_both, ltb-true, true≢false}
use Rattle.pj_lex.specs.Bytes.{upper}
use Rattle.pj_lex.specs.declared.token.Symbol.{Symbol}
use Rattle.pj_lex.specs.contracts.token.Symbol.{the_type}
use denote.Enum.Enum.{tag_below}
use denote.Enum.Declared.{variants, tag_of}
use Rattle.pj_grammar.specs.Lexemes.{Lexeme, word, number, text, symbol, same}
use Rattle.pj_grammar.proofs.kinds.Sets.{keywords, exact_words, modes, index_of, word_kind, size_kind}
use Rattle.pj_grammar.proofs.kinds.Sets.{kind_of, keyword_count, exact_count, numbers_from, texts_from}
use Rattle.pj_grammar.proofs.kinds.Sets.{symbols_from, symbol_count, kind_count, Kinds, all_below, apart}
use Rattle.pj_grammar.proofs.kinds.Sets.{agree, within}

-- an index is at most the list's length
pub index_of_most : (texts : List (List ℕ)) (bytes : List ℕ) → index_of texts bytes ≤ length texts
index_of_most [] bytes = omega arith
index_of_most (one ∷ more) bytes =
    cond_both (same bytes one) 0 (suc (index_of more bytes)) (λ k. k ≤ suc (length more))
    (λ e. omega arith)
    (λ e. omega (arith, index_of_most more bytes))

-- a word's kind is one of words, for each index of its capitals
pub word_kind_below : (at : ℕ) (bytes : List ℕ) → word_kind at bytes < numbers_from
word_kind_below at bytes =
    let most : index_of exact_words bytes ≤ exact_count = index_of_most exact_words bytes in
    cond_both (ltb at keyword_count) at (keyword_count + index_of exact_words bytes) (λ k. k < numbers_from)
    (λ e. omega (arith, ltb-true at keyword_count e))
    (λ e. omega arith)

-- both cases are below a number
both_below : (b : Bool) (x y n : ℕ) → x < n → y < n → cond b x y < n
both_below true x y n p q = p
both_below false x y n p q = q

-- four sizes
pub size_kind_below : (n : ℕ) → size_kind n < 4
size_kind_below n =
    both_below (eqb n 0) 0 (cond (eqb n 1) 1 (cond (leb n 65536) 2 3)) 4 (omega arith)
    (both_below (eqb n 1) 1 (cond (leb n 65536) 2 3) 4 (omega arith)
    (both_below (leb n 65536) 2 3 4 (omega arith) (omega arith)))

-- each symbol is one of them
pub tag_of_below : (s : Symbol) → tag_of the_type s < symbol_count
tag_of_below s = tag_below (variants the_type) (the_type.to s)

-- kinds of words stand first
pub word_below : (bytes : List ℕ) → kind_of (word bytes) < numbers_from
unfolding kind_of
word_below bytes = word_kind_below (index_of keywords (map upper bytes)) bytes

-- behind them those of numbers
pub number_from : (n : ℕ) → numbers_from ≤ kind_of (number n)
unfolding kind_of
number_from n = omega arith

pub number_below : (n : ℕ) → kind_of (number n) < texts_from
unfolding kind_of
number_below n = omega (arith, size_kind_below n)

-- behind them those of texts
pub text_from : (bytes : List ℕ) → texts_from ≤ kind_of (text bytes)
unfolding kind_of
text_from bytes = omega arith

pub text_below : (bytes : List ℕ) → kind_of (text bytes) < symbols_from
unfolding kind_of
text_below bytes = let most : index_of modes bytes ≤ length modes = index_of_most modes bytes in omega arith

-- behind them those of symbols
pub symbol_from : (s : Symbol) → symbols_from ≤ kind_of (symbol s)
unfolding kind_of
symbol_from s = omega arith

pub symbol_below : (s : Symbol) → kind_of (symbol s) < kind_count
unfolding kind_of
symbol_below s = omega (arith, tag_of_below s)

-- there are no others
pub kind_below : (l : Lexeme) → kind_of l < kind_count
kind_below (word bytes) = omega (arith, word_below bytes)
kind_below (number n) = omega (arith, number_below n)
kind_below (text bytes) = omega (arith, text_below bytes)
kind_below (symbol s) = symbol_below s

-- a test that holds below a number holds at each one below it
pub all_below_at : (n : ℕ) (test : Kinds) → all_below n test ≡ true → (k : ℕ) → k < n → test k ≡ true
all_below_at zero test h k below = absurd (omega arith)
all_below_at (suc n) test h k below =
    let parts = and_parts (test n) (all_below n test) h in
    elim (cases_lt k n) [
      | inl under ↦ all_below_at n test parts.1 k under
      | inr over ↦ let at : n ≡ k = omega arith in subst (λ j. test j ≡ true) at parts.0
    ]

not_both : (x y : Bool) → not (x && y) ≡ true → x ≡ true → y ≡ true → ⊥
not_both true true h p q = true≢false (sym h)
not_both true false h p q = true≢false (sym q)
not_both false y h p q = true≢false (sym p)

alike : (x y : Bool) → cond x y (not y) ≡ true → x ≡ y
alike true true h = refl
alike true false h = sym h
alike false true h = h
alike false false h = refl

implied : (x y : Bool) → (not x || y) ≡ true → x ≡ true → y ≡ true
implied true y h p = h
implied false y h p = absurd (true≢false (sym p))

-- no lexeme's kind is in two sets that are apart
pub apart-not :
    (a b : Kinds) → apart a b ≡ true → (l : Lexeme) → a (kind_of l) ≡ true → b (kind_of l) ≡ true → ⊥
apart-not a b h l =
    let k = kind_of l in
    not_both (a k) (b k) (all_below_at kind_count (λ j. not (a j && b j)) h k (kind_below l))

-- a lexeme's kind is in both sets or in none, where they agree
pub agree-is : (a b : Kinds) → agree a b ≡ true → (l : Lexeme) → a (kind_of l) ≡ b (kind_of l)
agree-is a b h l =
    let k = kind_of l in
    alike (a k) (b k) (all_below_at kind_count (λ j. cond (a j) (b j) (not (b j))) h k (kind_below l))

-- a lexeme's kind that is in a set is in each wider one
pub within-is :
    (a b : Kinds) → within a b ≡ true → (l : Lexeme) → a (kind_of l) ≡ true → b (kind_of l) ≡ true
within-is a b h l =
    let k = kind_of l in
    implied (a k) (b k) (all_below_at kind_count (λ j. not (a j) || b j) h k (kind_below l))
