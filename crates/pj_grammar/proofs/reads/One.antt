-- One lexeme, none, and other sets for a rule.
use Rattle.std.proofs.Common.{◌≡◌, ℕ, Bool, true, false, List, [], ◌∷◌, ◌++◌, Ok, Err, if◌then◌else◌, refl}
use Rattle.std.proofs.Common.{sym, ap, ◌∙◌, arith}
use Rattle.pj_grammar.specs.Lexemes.{Lexeme}
use Rattle.pj_grammar.specs.grammar.Ebnf.{Grammar, One, Nothing}
use Rattle.pj_grammar.specs.parsing.Parser.{Parser, one_at, nothing_at}
use Rattle.pj_grammar.proofs.kinds.Sets.{Kinds, kind_of, none, agree, within}
use Rattle.pj_grammar.proofs.kinds.SetLemmas.{agree-is, within-is}
use Rattle.pj_grammar.proofs.reads.Reads.{IsExact, Reads}
use Rattle.pj_grammar.proofs.reads.Phrases.{stops-end, reads_with}

-- ---- one lexeme

module _ {A : Type 0} (test : Lexeme → Bool) (view : Lexeme → A) where
  -- the first of them passes the test
  one_passes : (t : Lexeme) (ts : List Lexeme) (a : A) → One test view (t ∷ ts) a → test t ≡ true
  one_passes t ts a w = let same : w.lexeme ≡ t = let all = w.only in cc in rw same at w.passes

  -- no phrase is longer than another
  one_longer : (u : List Lexeme) (t : Lexeme) (v : List Lexeme) (a b : A) → One test view u a
      → One test view (u ++ t ∷ v) b → ⊥
  one_longer [] t v a b w longer = let none = w.only in cc
  one_longer (s ∷ []) t v a b w longer = let all = longer.only in cc
  one_longer (s ∷ s' ∷ u) t v a b w longer = let all = longer.only in cc

  -- its value is what is taken of it
  one_one : (ts : List Lexeme) (a b : A) → One test view ts a → One test view ts b → a ≡ b
  one_one ts a b w w' =
      let same : w.lexeme ≡ w'.lexeme = let all = w.only in let all' = w'.only in cc in
      w.taken ∙ ap view same ∙ sym w'.taken

  -- by whether the next lexeme passes
  one_if : (t : Lexeme) (ts : List Lexeme) (some : Lexeme) → test some ≡ true → (passes : Bool)
      → test t ≡ passes
      → IsExact (One test view) (t ∷ ts) (if passes then Ok (view t, ts) else Err (t ∷ ts))
  one_if t ts some is_some true yes' = record {
    read = t ∷ [];
    all = refl;
    phrase = record { lexeme = t; only = refl; passes = yes'; taken = refl };
    stops = λ t' more is v b longer. let all = longer.only in cc;
  }
  one_if t ts some is_some false no' = record {
    read = [];
    all = refl;
    next = some;
    more = [];
    value = view some;
    begins = record { lexeme = some; only = refl; passes = is_some; taken = refl };
    none = λ a w. let none = w.only in cc;
    stops = λ t' more is v b longer.
        let passed = one_passes t' v b longer in let same : t' ≡ t = cc in let k = rw same at passed in cc;
  }

  -- the answer is exact
  one_exact : (some : Lexeme) → test some ≡ true → (ts : List Lexeme)
      → IsExact (One test view) ts (one_at test view ts)
  unfolding one_at
  one_exact some is_some [] = record {
    read = [];
    all = refl;
    next = some;
    more = [];
    value = view some;
    begins = record { lexeme = some; only = refl; passes = is_some; taken = refl };
    none = λ a w. let none = w.only in cc;
    stops = stops-end (One test view) [];
  }
  one_exact some is_some (t ∷ ts) = one_if t ts some is_some (test t) refl

  -- one lexeme that passes a test
  pub one_reads : (F : Kinds) → ((l : Lexeme) → test l ≡ F (kind_of l)) → (some : Lexeme) → test some ≡ true
      → (n : ℕ)
      → Reads F none false n (One test view) (One test view) (one_at test view)
  unfolding one_at
  one_reads F same some is_some n = record {
    plain = record {
      begins = λ t ts a w. sym (same t) ∙ one_passes t ts a w;
      goes_on = λ u t v a b w longer. absurd (one_longer u t v a b w longer);
      may_be_empty = λ a w. absurd (let none = w.only in cc);
      is_empty = λ no'. absurd cc;
      one = one_one;
      some = (some ∷ [], view some, record { lexeme = some; only = refl; passes = is_some; taken = refl });
    };
    widens = λ ts a w. w;
    exact = λ ts short. one_exact some is_some ts;
    moves = λ t ts short in_first. let yes' : test t ≡ true = same t ∙ in_first in rw yes' (omega arith);
  }

-- ---- no lexeme

-- no lexeme, and a value
pub nothing_reads : {A : Type 0} (a : A) (n : ℕ)
    → Reads none none true n (Nothing a) (Nothing a) (nothing_at a)
nothing_reads {A} a n = record {
  plain = record {
    begins = λ t ts b w. absurd (let none = w.empty in cc);
    goes_on = λ u t v b c w longer. absurd (let none = w.empty in let none' = rw none at longer.empty in cc);
    may_be_empty = λ b w. refl;
    is_empty = λ is. (a, record { empty = refl; is = refl });
    one = λ ts b c w w'. w.is ∙ sym w'.is;
    some = ([], a, record { empty = refl; is = refl });
  };
  widens = λ ts b w. w;
  exact = λ ts short. record {
    read = [];
    all = refl;
    phrase = record { empty = refl; is = refl };
    stops = λ t more is v b longer. let none = longer.empty in cc;
  };
  moves = λ t ts short in_first. absurd cc;
}

-- ---- other sets

-- with sets that have the same kinds, and more that may follow
pub reads_as : {A : Type 0} {F M F' M' : Kinds} {e : Bool} {n : ℕ} {G W : Grammar A} {p : Parser A}
    → Reads F M e n G W p
    → agree F F' ≡ true → within M M' ≡ true → Reads F' M' e n G W p
reads_as {F = F} {M = M} {F' = F'} {M' = M'} r same more =
    reads_with F' M' r (agree-is F F' same) (within-is M M' more)
