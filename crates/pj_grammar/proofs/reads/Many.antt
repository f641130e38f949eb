-- A rule none or more times.
use Rattle.std.proofs.Common.{◌≡◌, ℕ, zero, suc, ◌≤◌, Bool, true, false, ◌||◌, List, [], ◌∷◌, ◌++◌, length}
use Rattle.std.proofs.Common.{refl, sym, ap, ◌∙◌, inl, inr, arith, append_assoc, append-nil}
use Rattle.std.proofs.lemmas.Bool.{or_left, or_right}
use Rattle.pj_grammar.specs.Lexemes.{Lexeme}
use Rattle.pj_grammar.specs.grammar.Ebnf.{Grammar, Then, Nothing, ◌>>=◌, ◌or◌, many}
use Rattle.pj_grammar.specs.parsing.Parser.{Parser, many_with, many_at}
use Rattle.pj_grammar.proofs.kinds.Sets.{Kinds, kind_of, ◌∪◌, apart}
use Rattle.pj_grammar.proofs.kinds.SetLemmas.{apart-not}
use Rattle.pj_grammar.proofs.reads.Reads.{IsExact, Plain, Reads}
use Rattle.pj_grammar.proofs.reads.Phrases.{IsLonger, SplitsAre, splits, stops-end, IsApart, reads_with}
use Rattle.pj_grammar.proofs.reads.Phrases.{reads_shorter, reads_same}
use Rattle.pj_grammar.proofs.reads.Then.{or_none, then_reads_first, mapped_reads}
use Rattle.pj_grammar.proofs.reads.One.{nothing_reads}
use Rattle.pj_grammar.proofs.reads.Choice.{or_reads_apart}

-- ---- phrases

-- what has a lexeme isn't empty
cons-not : (u : List Lexeme) (t : Lexeme) (v : List Lexeme) → u ++ t ∷ v ≡ [] → ⊥
cons-not [] t v e = cc
cons-not (s ∷ u) t v e = cc

module _ {A : Type 0} {F M : Kinds} {G : Grammar A} (one : Plain F M false G) (separate : IsApart M F) where
  -- what begins some phrases of the rule
  many_begins : (t : Lexeme) (ts : List Lexeme) (ps : List A) → many G (t ∷ ts) ps → F (kind_of t) ≡ true
  many_begins t ts [] w = absurd cc
  many_begins t ts (a ∷ ps) w = go w.0 w.1 w.2 w.3
    where
      go : (u v : List Lexeme) → t ∷ ts ≡ u ++ v → G u a → F (kind_of t) ≡ true
      go [] v all phrase = absurd (let empty = one.may_be_empty a phrase in cc)
      go (s ∷ u) v all phrase = let same : s ≡ t = cc in rw same at (one.begins s u a phrase)

  -- some of them have a lexeme
  many-some : (a : A) (ps : List A) → many G [] (a ∷ ps) → ⊥
  many-some a ps w = go w.0 w.1 w.2 w.3
    where
      go : (u v : List Lexeme) → [] ≡ u ++ v → G u a → ⊥
      go [] v all phrase = let empty = one.may_be_empty a phrase in cc
      go (s ∷ u) v all phrase = cc

  -- what could follow a phrase of the rule doesn't begin more of them
  longer-not : (u v u' v' : List Lexeme) (a b : A) (ps : List A) → G u a → G u' b → many G v ps
      → IsLonger u v u' v' → ⊥
  longer-not u v u' v' a b ps phrase other more longer =
      separate longer.next (one.goes_on u longer.next longer.more a b phrase (rw longer.front_is at other))
      (many_begins longer.next (longer.more ++ v') ps (rw longer.back_is at more))

  -- they have one list of values
  many_one : (ps qs : List A) (ts : List Lexeme) → many G ts ps → many G ts qs → ps ≡ qs
  many_one [] [] ts w w' = refl
  many_one [] (b ∷ qs) [] w w' = absurd (many-some b qs w')
  many_one [] (b ∷ qs) (t ∷ ts) w w' = absurd cc
  many_one (a ∷ ps) [] [] w w' = absurd (many-some a ps w)
  many_one (a ∷ ps) [] (t ∷ ts) w w' = absurd cc
  many_one (a ∷ ps) (b ∷ qs) ts w w' =
      go w.0 w.1 w'.0 w'.1 (splits w.0 w.1 w'.0 w'.1 (sym w.2 ∙ w'.2)) w.3 w'.3 w.4 w'.4 (many_one ps qs)
    where
      go : (u v u' v' : List Lexeme) → SplitsAre u v u' v' → G u a → G u' b → many G v ps → many G v' qs
          → ((xs : List Lexeme) → many G xs ps → many G xs qs → ps ≡ qs) → ◌≡◌ {A = List A} (a ∷ ps) (b ∷ qs)
      go u v u' v' (inl is) phrase phrase' more more' behind =
          let heads : a ≡ b = one.one u a b phrase (rw (← is.0) at phrase') in
          let tails : ps ≡ qs = behind v more (rw (← is.1) at more') in
          cc
      go u v u' v' (inr (inl longer)) phrase phrase' more more' behind =
          absurd (longer-not u v u' v' a b ps phrase phrase' more longer)
      go u v u' v' (inr (inr longer)) phrase phrase' more more' behind =
          absurd (longer-not u' v' u v b a qs phrase' phrase more' longer)

  -- what follows in a longer row of phrases
  many_goes_on : (ps qs : List A) (ts : List Lexeme) (t : Lexeme) (w : List Lexeme) → many G ts ps
      → many G (ts ++ t ∷ w) qs
      → (F ∪ M) (kind_of t) ≡ true
  many_goes_on [] qs ts t w whole longer = or_left (F (kind_of t)) _ (many_begins t w qs (rw whole at longer))
  many_goes_on (a ∷ ps) [] ts t w whole longer = absurd (cons-not ts t w longer)
  many_goes_on (a ∷ ps) (b ∷ qs) ts t w whole longer =
      go whole.0 whole.1 longer.0 longer.1
      (splits whole.0 (whole.1 ++ t ∷ w) longer.0 longer.1
      (sym (append_assoc whole.0 whole.1 (t ∷ w)) ∙ ap (λ (xs : List Lexeme). xs ++ t ∷ w) (sym whole.2)
      ∙ longer.2))
      whole.3 longer.3 whole.4 longer.4 (many_goes_on ps qs)
    where
      go : (u v u' v' : List Lexeme) → SplitsAre u (v ++ t ∷ w) u' v' → G u a → G u' b → many G v ps
          → many G v' qs
          → ((xs : List Lexeme) (s : Lexeme) (ys : List Lexeme) → many G xs ps → many G (xs ++ s ∷ ys) qs
          → (F ∪ M) (kind_of s) ≡ true)
          → (F ∪ M) (kind_of t) ≡ true
      go u v u' v' (inl is) phrase phrase' more more' behind = behind v t w more (rw is.1 more')
      go u [] u' v' (inr (inl longer)) phrase phrase' more more' behind =
          let same : longer.next ≡ t = let back = longer.back_is in cc in
          or_right (F (kind_of t)) _
          (rw same at (one.goes_on u longer.next longer.more a b phrase (rw longer.front_is at phrase')))
      go u (s ∷ v) u' v' (inr (inl longer)) phrase phrase' more more' behind =
          let same : longer.next ≡ s = let back = longer.back_is in cc in
          let in_more = one.goes_on u longer.next longer.more a b phrase (rw longer.front_is at phrase') in
          absurd (separate s (rw same at in_more) (many_begins s v ps more))
      go u v u' v' (inr (inr longer)) phrase phrase' more more' behind =
          absurd (longer-not u' v' u (v ++ t ∷ w) b a qs phrase' phrase more' longer)

  -- the sets of the whole
  pub many_plain : Plain F (F ∪ M) true (many G)
  many_plain = record {
    begins = many_begins;
    goes_on = λ u t v ps qs. many_goes_on ps qs u t v;
    may_be_empty = λ ps w. refl;
    is_empty = λ is. ([], refl);
    one = λ ts ps qs. many_one ps qs ts;
    some = ([], [], refl);
  }

-- ---- what is read

-- one and more, or none
abbrev Unrolled : {A : Type 0} → Grammar A → Grammar (List A)
Unrolled G = (G >>= λ a. many G >>= λ more. Nothing (a ∷ more)) or Nothing []

-- a row of phrases is none, or one and more
unrolled : {A : Type 0} (G : Grammar A) (ts : List Lexeme) (ps : List A) → many G ts ps → Unrolled G ts ps
unrolled G ts [] w = inr (record { empty = w; is = refl })
unrolled G ts (a ∷ ps) w = inl (record {
  front = w.0;
  back = w.1;
  found = a;
  all = w.2;
  one = w.3;
  other = record {
    front = w.1;
    back = [];
    found = ps;
    all = sym (append-nil w.1);
    one = w.4;
    other = record { empty = refl; is = refl };
  };
})

-- one and more give the values of both
many-more : {A : Type 0} (G : Grammar A) (ts : List Lexeme) (a : A) (ps : List A)
    → Then (many G) (λ more. Nothing (a ∷ more)) ts ps → (more : List A) × (ps ≡ a ∷ more) × many G ts more
many-more G ts a ps w =
    let none = w.other.empty in
    let all : ts ≡ w.front = w.all ∙ rw none (append-nil w.front) in
    (w.found, w.other.is, rw all w.one)

-- none, or one and more, is a row of phrases
rolled : {A : Type 0} (G : Grammar A) (ts : List Lexeme) (ps : List A) → Unrolled G ts ps → many G ts ps
rolled G ts ps (inl w) =
    let behind = many-more G w.back w.found ps w.other in
    rw behind.1 (w.front, w.back, w.all, w.one, behind.2)
rolled G ts ps (inr w) = rw w.is w.empty

-- a wider rule has more of them
many-widens : {A : Type 0} {G W : Grammar A} → ((ts : List Lexeme) (a : A) → G ts a → W ts a)
    → (ts : List Lexeme) (ps : List A) → many G ts ps → many W ts ps
many-widens wide ts [] w = w
many-widens wide ts (a ∷ ps) w = (w.0, w.1, w.2, wide w.0 a w.3, many-widens wide w.1 ps w.4)

-- tests of two kinds, said more than once
same-cases : (x y : Bool) → ((((x || y) || y) || false) || x) ≡ true → (x || y) ≡ true
same-cases true y h = refl
same-cases false true h = refl
same-cases false false h = h

module _ {A : Type 0} {F M : Kinds} {n : ℕ} {G W : Grammar A} {p : Parser A}
    (r : Reads F M false n G W p) (separate : IsApart M F)
    (test : Lexeme → Bool) (same : (l : Lexeme) → test l ≡ F (kind_of l)) where
  -- of no lexemes, no phrase is read
  exact-none : (ts : List Lexeme) → length ts ≤ 0 → IsExact (many G) ts (many_with 0 test p ts)
  exact-none [] short = record { read = []; all = refl; phrase = refl; stops = stops-end (many G) [] }
  exact-none (t ∷ ts) short = absurd (omega arith)

  -- as long as the lists are
  reads_with_fuel : (k : ℕ) → k ≤ n → Reads F (F ∪ M) true k (many G) (many W) (many_with k test p)
  reads_with_fuel zero less = record {
    plain = many_plain r.plain separate;
    widens = many-widens r.widens;
    exact = exact-none;
    moves = λ t ts short in_first. absurd (omega arith);
  }
  reads_with_fuel (suc k) less =
      let some_reads = then_reads_first (reads_shorter (suc k) less r)
      (λ a. mapped_reads (reads_with_fuel k (omega arith)) (λ more. a ∷ more)) separate
      (inr (refl, omega arith)) in
      let either_reads =
      or_reads_apart some_reads (nothing_reads [] (suc k)) (λ l in_first in_none. cc) test same in
      reads_same (many G) (many W) (rolled G) (unrolled G) (rolled W)
      (reads_with F (F ∪ M) either_reads
      (λ l. or_none (F (kind_of l)))
      (λ l. same-cases (F (kind_of l)) (M (kind_of l))))

  -- a rule none or more times, where no phrase's follower begins another
  pub many_reads_apart : Reads F (F ∪ M) true n (many G) (many W) (many_at test p)
  many_reads_apart = record {
    plain = many_plain r.plain separate;
    widens = many-widens r.widens;
    exact = λ ts short. (reads_with_fuel (length ts) short).exact ts (omega arith);
    moves = λ t ts short. (reads_with_fuel (suc (length ts)) (omega arith)).moves t ts (omega arith);
  }

-- a rule none or more times
pub many_reads : {A : Type 0} {F M : Kinds} {n : ℕ} {G W : Grammar A} {p : Parser A}
    → Reads F M false n G W p → apart M F ≡ true → (test : Lexeme → Bool)
    → ((l : Lexeme) → test l ≡ F (kind_of l))
    → Reads F (F ∪ M) true n (many G) (many W) (many_at test p)
many_reads {F = F} {M = M} r separate test same = many_reads_apart r (apart-not M F separate) test same
