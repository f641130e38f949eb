-- One rule or another, by the next lexeme.
use Rattle.std.proofs.Common.{◌≡◌, ℕ, suc, ◌<◌, ◌≤◌, Bool, true, false, ◌||◌, List, [], ◌∷◌, ◌++◌, length}
use Rattle.std.proofs.Common.{Some, None, Ok, Err, if◌then◌else◌, sym, ap, ◌∙◌, inl, inr, ⊎_elim, arith}
use Rattle.std.proofs.Common.{append-nil}
use Rattle.std.proofs.lemmas.Bool.{cases_Bool, or_left, or_right}
use Rattle.pj_grammar.specs.Lexemes.{Lexeme}
use Rattle.pj_grammar.specs.grammar.Ebnf.{Grammar, ◌or◌, optional}
use Rattle.pj_grammar.specs.parsing.Parser.{Answer, Parser, begins, or_at, optional_at}
use Rattle.pj_grammar.proofs.kinds.Sets.{Kinds, kind_of, ◌∪◌, when, apart}
use Rattle.pj_grammar.proofs.kinds.SetLemmas.{apart-not}
use Rattle.pj_grammar.proofs.reads.Reads.{IsExact, left, Plain, Reads}
use Rattle.pj_grammar.proofs.reads.Phrases.{IsApart, or_widens, reads_with}
use Rattle.pj_grammar.proofs.reads.Then.{or_second, or_none, mapped_reads}
use Rattle.pj_grammar.proofs.reads.One.{nothing_reads}

-- ---- phrases

module _ {A : Type 0} {F M F' M' : Kinds} {e' : Bool} {G H : Grammar A}
    (first : Plain F M false G) (second : Plain F' M' e' H) (separate : IsApart F F') where
  -- a phrase of the first rule has a lexeme that begins it, and none of the second one begins so
  first-not : (ts w : List Lexeme) (a b : A) → G ts a → H (ts ++ w) b → ⊥
  first-not [] w a b phrase other = let empty = first.may_be_empty a phrase in cc
  first-not (t ∷ ts) w a b phrase other =
      separate t (first.begins t ts a phrase) (second.begins t (ts ++ w) b other)

  -- likewise the other way round, but for the empty phrase
  second-not : (t : Lexeme) (ts w : List Lexeme) (a b : A) → H (t ∷ ts) a → G (t ∷ ts ++ w) b → ⊥
  second-not t ts w a b phrase other = separate t (first.begins t (ts ++ w) b other)
      (second.begins t ts a phrase)

  -- what begins a phrase of the choice
  or_begins : (t : Lexeme) (ts : List Lexeme) (a : A) → (G or H) (t ∷ ts) a → (F ∪ F') (kind_of t) ≡ true
  or_begins t ts a (inl phrase) = or_left (F (kind_of t)) _ (first.begins t ts a phrase)
  or_begins t ts a (inr phrase) = or_right (F (kind_of t)) _ (second.begins t ts a phrase)

  -- the empty phrase of the second rule goes on as one of the first, and no other phrase does
  second_goes_on : (u : List Lexeme) (t : Lexeme) (v : List Lexeme) (a b : A) → H u a → G (u ++ t ∷ v) b
      → when e' F (kind_of t) ≡ true
  second_goes_on [] t v a b phrase longer = rw (second.may_be_empty a phrase) (first.begins t v b longer)
  second_goes_on (s ∷ u) t v a b phrase longer = absurd (second-not s u (t ∷ v) a b phrase longer)

  -- what follows in a longer phrase of the choice
  or_goes_on : (u : List Lexeme) (t : Lexeme) (v : List Lexeme) (a b : A) → (G or H) u a
      → (G or H) (u ++ t ∷ v) b
      → ((M ∪ M') ∪ (when e' F)) (kind_of t) ≡ true
  or_goes_on u t v a b (inl phrase) (inl longer) =
      or_left (M (kind_of t) || M' (kind_of t)) _
      (or_left (M (kind_of t)) _ (first.goes_on u t v a b phrase longer))
  or_goes_on u t v a b (inl phrase) (inr longer) = absurd (first-not u (t ∷ v) a b phrase longer)
  or_goes_on u t v a b (inr phrase) (inl longer) =
      or_right (M (kind_of t) || M' (kind_of t)) _ (second_goes_on u t v a b phrase longer)
  or_goes_on u t v a b (inr phrase) (inr longer) =
      or_left (M (kind_of t) || M' (kind_of t)) _
      (or_right (M (kind_of t)) _ (second.goes_on u t v a b phrase longer))

  -- the second rule is empty where the choice is
  or_empty : (a : A) → (G or H) [] a → e' ≡ true
  or_empty a (inl phrase) = absurd (let empty = first.may_be_empty a phrase in cc)
  or_empty a (inr phrase) = second.may_be_empty a phrase

  -- no phrase is one of both rules
  other-not : (ts : List Lexeme) (a b : A) → G ts a → H ts b → ⊥
  other-not [] a b phrase other = first-not [] [] a b phrase other
  other-not (t ∷ ts) a b phrase other = separate t (first.begins t ts a phrase) (second.begins t ts b other)

  -- a phrase of the choice has one value
  or_one : (ts : List Lexeme) (a b : A) → (G or H) ts a → (G or H) ts b → a ≡ b
  or_one ts a b (inl phrase) (inl other) = first.one ts a b phrase other
  or_one ts a b (inl phrase) (inr other) = absurd (other-not ts a b phrase other)
  or_one ts a b (inr phrase) (inl other) = absurd (other-not ts b a other phrase)
  or_one ts a b (inr phrase) (inr other) = second.one ts a b phrase other

  -- the sets of the choice
  pub or_plain : Plain (F ∪ F') ((M ∪ M') ∪ (when e' F)) e' (G or H)
  or_plain = record {
    begins = or_begins;
    goes_on = or_goes_on;
    may_be_empty = or_empty;
    is_empty = λ is. let phrase = second.is_empty is in (phrase.0, inr phrase.1);
    one = or_one;
    some = let phrase = first.some in (phrase.0, phrase.1, inl phrase.2);
  }

-- ---- what is read

module _ {A : Type 0} {F M F' M' : Kinds} {e' : Bool} {n : ℕ} {G W H V : Grammar A} {p q : Parser A}
    (first : Reads F M false n G W p) (second : Reads F' M' e' n H V q) (separate : IsApart F F') where
  -- the first rule has no phrase that begins with these, where a lexeme begins one of the second
  begun-not : (t : Lexeme) (ts : List Lexeme) (a : A) → F (kind_of t) ≡ true → H (t ∷ ts) a → ⊥
  begun-not t ts a in_first phrase = separate t in_first (second.plain.begins t ts a phrase)

  -- behind a prefix of a list that begins in one set, no phrase of a rule that begins in the other
  read-not : (read : List Lexeme) (t : Lexeme) (ts rest w : List Lexeme) (a : A) → F (kind_of t) ≡ true
      → t ∷ ts ≡ read ++ rest
      → length rest ≤ length ts → H (read ++ w) a → ⊥
  read-not [] t ts rest w a in_first all shorter phrase =
      let k : suc (length ts) ≡ length rest = ap (λ (xs : List Lexeme). length xs) all in absurd (omega arith)
  read-not (s ∷ read) t ts rest w a in_first all shorter phrase =
      let same : t ≡ s = cc in begun-not s (read ++ w) a (rw same at in_first) phrase

  -- what the first parser says is exact for the choice, where its rule is begun
  exact_first : (t : Lexeme) (ts : List Lexeme) → F (kind_of t) ≡ true → (answer : Answer A)
      → IsExact G (t ∷ ts) answer
      → length (left answer) ≤ length ts → IsExact (G or H) (t ∷ ts) answer
  exact_first t ts in_first (Ok x) f shorter = record {
    read = f.read;
    all = f.all;
    phrase = inl f.phrase;
    stops = λ t' more is v b.
        ⊎_elim (f.stops t' more is v b) (read-not f.read t ts x.1 (t' ∷ v) b in_first f.all shorter);
  }
  exact_first t ts in_first (Err rest) g shorter = record {
    read = g.read;
    all = g.all;
    next = g.next;
    more = g.more;
    value = g.value;
    begins = inl g.begins;
    none = λ a.
        ⊎_elim (g.none a)
        (λ phrase. read-not g.read t ts rest [] a in_first g.all shorter (rw append-nil phrase));
    stops = λ t' more is v b.
        ⊎_elim (g.stops t' more is v b) (read-not g.read t ts rest (t' ∷ v) b in_first g.all shorter);
  }

  -- the next lexeme doesn't begin a phrase of the first rule
  abbrev BeginsNot : List Lexeme → Type 0
  BeginsNot ts = (t : Lexeme) (more : List Lexeme) → ts ≡ t ∷ more → F (kind_of t) ≡ true → ⊥

  -- no phrase of the first rule goes on from what was read, where it is not begun
  unread-not : (ts read rest : List Lexeme) → BeginsNot ts → ts ≡ read ++ rest
      → (t : Lexeme) (more : List Lexeme) → rest ≡ t ∷ more
      → (v : List Lexeme) (a : A) → G (read ++ t ∷ v) a → ⊥
  unread-not ts [] rest not_begun all t more is v a phrase =
      not_begun t more (all ∙ is) (first.plain.begins t v a phrase)
  unread-not ts (s ∷ read) rest not_begun all t more is v a phrase =
      not_begun s (read ++ rest) all (first.plain.begins s (read ++ t ∷ v) a phrase)

  -- nor is what was read a phrase of it
  phrase-not : (ts read rest : List Lexeme) → BeginsNot ts → ts ≡ read ++ rest → (a : A) → G read a → ⊥
  phrase-not ts [] rest not_begun all a phrase = let empty = first.plain.may_be_empty a phrase in cc
  phrase-not ts (s ∷ read) rest not_begun all a phrase =
      not_begun s (read ++ rest) all (first.plain.begins s read a phrase)

  -- what the second parser says is exact for the choice, where the first rule is not begun
  exact_second : (ts : List Lexeme) → BeginsNot ts → (answer : Answer A) → IsExact H ts answer
      → IsExact (G or H) ts answer
  exact_second ts not_begun (Ok x) f = record {
    read = f.read;
    all = f.all;
    phrase = inr f.phrase;
    stops = λ t more is v b.
        ⊎_elim (unread-not ts f.read x.1 not_begun f.all t more is v b)
        (f.stops t more is v b);
  }
  exact_second ts not_begun (Err rest) g = record {
    read = g.read;
    all = g.all;
    next = g.next;
    more = g.more;
    value = g.value;
    begins = inr g.begins;
    none = λ a. ⊎_elim (phrase-not ts g.read rest not_begun g.all a) (g.none a);
    stops = λ t more is v b.
        ⊎_elim (unread-not ts g.read rest not_begun g.all t more is v b)
        (g.stops t more is v b);
  }

  module _ (test : Lexeme → Bool) (same : (l : Lexeme) → test l ≡ F (kind_of l)) where
    -- by whether the next lexeme passes
    exact_if : (t : Lexeme) (ts : List Lexeme) → length ts < n → (passes : Bool) → F (kind_of t) ≡ passes
        → IsExact (G or H) (t ∷ ts) (if passes then p (t ∷ ts) else q (t ∷ ts))
    exact_if t ts short true yes' =
        exact_first t ts yes' (p (t ∷ ts)) (first.exact (t ∷ ts) (omega arith)) (first.moves t ts short yes')
    exact_if t ts short false no' =
        exact_second (t ∷ ts)
        (λ t' more is in_first. let at_t : t' ≡ t = cc in let k = rw at_t at in_first in cc)
        (q (t ∷ ts)) (second.exact (t ∷ ts) (omega arith))

    -- the answer of the choice is exact
    or_exact : (ts : List Lexeme) → length ts ≤ n → IsExact (G or H) ts (or_at test p q ts)
    unfolding begins
    or_exact [] short = exact_second [] (λ t more is in_first. cc) (q []) (second.exact [] short)
    or_exact (t ∷ ts) short = exact_if t ts (omega arith) (test t) (sym (same t))

    -- where a lexeme begins a phrase of either rule, some are read
    or_moves : (t : Lexeme) (ts : List Lexeme) → length ts < n → (F ∪ F') (kind_of t) ≡ true
        → length (left (or_at test p q (t ∷ ts))) ≤ length ts
    unfolding begins
    or_moves t ts short in_one = elim (cases_Bool (F (kind_of t))) [
      | inl yes' ↦ let passes : test t ≡ true = same t ∙ yes' in rw passes (first.moves t ts short yes')
      | inr no' ↦
          let fails : test t ≡ false = same t ∙ no' in
          rw fails (second.moves t ts short (or_second (F (kind_of t)) _ no' in_one))
    ]

    -- one rule or another, whose phrases don't begin alike
    pub or_reads_apart : Reads (F ∪ F') ((M ∪ M') ∪ (when e' F)) e' n (G or H) (W or V)
        (or_at test p q)
    or_reads_apart = record {
      plain = or_plain first.plain second.plain separate;
      widens = or_widens first.widens second.widens;
      exact = or_exact;
      moves = or_moves;
    }

-- one rule or another
pub or_reads : {A : Type 0} {F M F' M' : Kinds} {e' : Bool} {n : ℕ} {G W H V : Grammar A} {p q : Parser A}
    → Reads F M false n G W p → Reads F' M' e' n H V q → apart F F' ≡ true → (test : Lexeme → Bool)
    → ((l : Lexeme) → test l ≡ F (kind_of l))
    → Reads (F ∪ F') ((M ∪ M') ∪ (when e' F)) e' n (G or H) (W or V) (or_at test p q)
or_reads {F = F} {F' = F'} first second separate test same =
    or_reads_apart first second (apart-not F F' separate) test same

-- one or none
pub optional_reads : {A : Type 0} {F M : Kinds} {n : ℕ} {G W : Grammar A} {p : Parser A}
    → Reads F M false n G W p → (test : Lexeme → Bool) → ((l : Lexeme) → test l ≡ F (kind_of l))
    → Reads F (M ∪ F) true n (optional G) (optional W) (optional_at test p)
optional_reads {F = F} {M = M} {n = n} r test same =
    reads_with F (M ∪ F)
    (or_reads_apart (mapped_reads r Some) (nothing_reads None n) (λ l in_first in_none. cc) test same)
    (λ l. or_none (F (kind_of l)))
    (λ l yes'. rw (or_none (M (kind_of l))) at yes')
