-- Rules of the grammar that read lexemes whose words have no line feed: what holds then of the values that
-- they read. A rule's lemma is put together as the rule is.
use Rattle.std.proofs.Common.{◌≡◌, ℕ, true, List, [], ◌∷◌, sym, subst, inl, inr}
use Rattle.std.specs.Prelude.{Bool, IfSome}
use Rattle.std.specs.List.{AllByRecursion}
use Rattle.pj_grammar.specs.Lexemes.{Lexeme, word, number, text, symbol, bytes_of, is_word}
use Rattle.pj_grammar.specs.grammar.Ebnf.{Grammar, Nothing, ◌>>=◌, ◌or◌, many, optional}
use Rattle.pj_grammar.specs.grammar.Words.{word_that, listed, in_parens}
use Rattle.pj_legal.specs.Laws.{IsOneLine}
use Rattle.pj_legal.proofs.histories.ListLemmas.{All-front, All-back}

-- no line feed in a word
abbrev pub IsPlainLexeme : Lexeme → Type 0
IsPlainLexeme (word bytes) = IsOneLine bytes
IsPlainLexeme (number n) = Unit {0}
IsPlainLexeme (text bytes) = Unit {0}
IsPlainLexeme (symbol s) = Unit {0}

-- of such lexemes the rule reads values alone of which this holds
pub record Gives {A : Type 0} (P : A → Type 0) (rule : Grammar A) : Type 0 where
  pub of : (ts : List Lexeme) (value : A) → AllByRecursion IsPlainLexeme ts → rule ts value → P value

-- a value that is there without lexemes
pub give : {A : Type 0} {P : A → Type 0} {value : A} → P value → Gives P (Nothing value)
give {A} {P} holds = record { of = λ ts found plain none. subst P (sym none.is) holds }

module _ {A B : Type 0} {P : A → Type 0} {Q : B → Type 0} {first : Grammar A} {second : A → Grammar B} where
  -- one rule behind the other
  pub then : Gives P first → ((a : A) → P a → Gives Q (second a)) → Gives Q (first >>= second)
  then one other = record {
    of = λ ts value plain read.
        let all = subst (AllByRecursion IsPlainLexeme) read.all plain in
        let holds =
        one.of read.front read.found (All-front IsPlainLexeme read.front read.back all) read.one in
        (other read.found holds).of read.back value (All-back IsPlainLexeme read.front read.back all)
        read.other;
  }

module _ {A B : Type 0} {Q : B → Type 0} {first : Grammar A} {second : A → Grammar B} where
  -- the same, where nothing needs to hold of the first value
  pub skip : ((a : A) → Gives Q (second a)) → Gives Q (first >>= second)
  skip other =
      then {P = λ a. Unit {0}} (record { of = λ ts value plain read. tt }) (λ a is. other a)

module _ {A : Type 0} {P : A → Type 0} where
  -- one rule or the other
  pub either : {first second : Grammar A} → Gives P first → Gives P second → Gives P (first or second)
  either one other = record {
    of = λ ts value plain read. elim read [
      | inl by ↦ one.of ts value plain by
      | inr by ↦ other.of ts value plain by
    ];
  }

  -- none or more
  pub several : {rule : Grammar A} → Gives P rule → Gives (AllByRecursion P) (many rule)
  several {rule} gives = record { of = each }
    where
      each : (ts : List Lexeme) (values : List A) → AllByRecursion IsPlainLexeme ts → many rule ts values
          → AllByRecursion P values
      each ts [] plain read = tt
      each ts (value ∷ more) plain (front, back, split, one, others) =
          let all = subst (AllByRecursion IsPlainLexeme) split plain in (
            gives.of front value (All-front IsPlainLexeme front back all) one,
            each back more (All-back IsPlainLexeme front back all) others,
          )

module _ {A : Type 0} {P : A → Type 0} where
  -- one or none
  pub maybe : {rule : Grammar A} → Gives P rule → Gives (λ o. IfSome o P) (optional rule)
  maybe gives = either {P = λ o. IfSome o P} (then gives (λ a is. give is)) (give tt)

  -- one or more, with commas between them
  pub list : {rule : Grammar A} → Gives P rule → Gives (AllByRecursion P) (listed rule)
  list gives = then gives (λ a is. then (several (skip (λ _. gives))) (λ more all. give (is, all)))

  -- in parentheses
  pub enclosed : {rule : Grammar A} → Gives P rule → Gives P (in_parens rule)
  enclosed gives = skip (λ _. then gives (λ a is. skip (λ _. give is)))

-- a word
pub a_word : {test : List ℕ → Bool} → Gives IsOneLine (word_that test)
a_word {test} = record {
  of = λ ts bytes plain one.
      from one.lexeme bytes (subst (AllByRecursion IsPlainLexeme) one.only plain).0 one.passes one.taken;
}
  where
    from : (lexeme : Lexeme) (bytes : List ℕ) → IsPlainLexeme lexeme → is_word test lexeme ≡ true
        → bytes ≡ bytes_of lexeme
        → IsOneLine bytes
    from (word same) bytes is passes taken = subst IsOneLine (sym taken) is
    from (number n) bytes is passes taken = absurd (cc)
    from (text same) bytes is passes taken = absurd (cc)
    from (symbol s) bytes is passes taken = absurd (cc)
