-- Phrases of rules: two splits of one list, and where a phrase of a rule stops.
use Rattle.std.proofs.Common.{◌≡◌, ℕ, ◌≤◌, Bool, true, List, [], ◌∷◌, ◌++◌, length, Ok, Err, refl, sym, ap}
use Rattle.std.proofs.Common.{◌∙◌, ◌⊎◌, inl, inr, arith, length-append}
use Rattle.pj_grammar.specs.Lexemes.{Lexeme}
use Rattle.pj_grammar.specs.grammar.Ebnf.{Grammar, ◌or◌}
use Rattle.pj_grammar.specs.parsing.Parser.{Answer, Parser}
use Rattle.pj_grammar.proofs.kinds.Sets.{Kinds, kind_of}
use Rattle.pj_grammar.proofs.reads.Reads.{Stops, IsExact, left, Plain, Reads}

-- ---- two splits of a list

-- the second prefix is longer
pub record IsLonger (front back front' back' : List Lexeme) : Type 0 where
  pub next : Lexeme
  pub more : List Lexeme
  pub front_is : front' ≡ front ++ next ∷ more
  pub back_is : back ≡ next ∷ more ++ back'

-- the splits are the same, or one of the prefixes is longer
abbrev pub SplitsAre : List Lexeme → List Lexeme → List Lexeme → List Lexeme → Type 0
SplitsAre front back front' back' =
    ((front ≡ front') × (back ≡ back')) ⊎
    (IsLonger front back front' back' ⊎ IsLonger front' back' front back)

-- the same lexeme in front
splits-cons : (t t' : Lexeme) (f b f' b' : List Lexeme) → t ≡ t' → SplitsAre f b f' b'
    → SplitsAre (t ∷ f) b (t' ∷ f') b'
splits-cons t t' f b f' b' same (inl is) = inl (cc, is.1)
splits-cons t t' f b f' b' same (inr (inl r)) =
    inr (inl (record {
      next = r.next;
      more = r.more;
      front_is = rw (same, r.front_is) refl;
      back_is = r.back_is;
    }))
splits-cons t t' f b f' b' same (inr (inr r)) =
    inr (inr (record {
      next = r.next;
      more = r.more;
      front_is = rw (same, r.front_is) refl;
      back_is = r.back_is;
    }))

-- two splits of one list
pub splits : (f b f' b' : List Lexeme) → f ++ b ≡ f' ++ b' → SplitsAre f b f' b'
splits [] b [] b' e = inl (refl, e)
splits [] b (t ∷ f') b' e = inr (inl (record { next = t; more = f'; front_is = refl; back_is = e }))
splits (t ∷ f) b [] b' e = inr (inr (record { next = t; more = f; front_is = refl; back_is = sym e }))
splits (t ∷ f) b (t' ∷ f') b' e = splits-cons t t' f b f' b' (cc) (splits f b f' b' (cc))

-- ---- where a phrase stops

-- no lexeme can follow where none is left
pub stops-end : {A : Type 0} (rule : Grammar A) (read : List Lexeme) → Stops rule read []
stops-end rule read t more e v b h = absurd cc

-- a prefix of what is left
pub stops-front : {A : Type 0} (rule : Grammar A) (read r rest : List Lexeme) → Stops rule read (r ++ rest)
    → Stops rule read r
stops-front rule read [] rest stops = stops-end rule read
stops-front rule read (s ∷ r) rest stops = λ t more e. stops t (r ++ rest) (cc)

-- the same lexeme is next
pub stops-same : {A : Type 0} (rule : Grammar A) (read r v : List Lexeme) (t : Lexeme) (more : List Lexeme)
    → Stops rule read (r ++ t ∷ more) → Stops rule read (r ++ t ∷ v)
stops-same rule read [] v t more stops = λ t' more' e. stops t' more (cc)
stops-same rule read (s ∷ r) v t more stops = λ t' more' e. stops t' (r ++ t ∷ more) (cc)

-- by the kinds that may follow
pub stops-by : {A : Type 0} {F M : Kinds} {e : Bool} {rule : Grammar A} → Plain F M e rule
    → (read rest : List Lexeme) (a : A) → rule read a
    → ((t : Lexeme) (more : List Lexeme) → rest ≡ t ∷ more → M (kind_of t) ≡ true → ⊥) → Stops rule read rest
stops-by plain read rest a phrase none t more is v b longer =
    none t more is (plain.goes_on read t v a b phrase longer)

-- ---- what an answer leaves

-- what is read stands in front of what is left
left-front : {A : Type 0} (rule : Grammar A) (ts : List Lexeme) (answer : Answer A) → IsExact rule ts answer
    → (read : List Lexeme) × (ts ≡ read ++ left answer)
left-front rule ts (Ok x) e = (e.read, e.all)
left-front rule ts (Err rest) e = (e.read, e.all)

-- an answer leaves no more than there was
pub left-shorter : {A : Type 0} (rule : Grammar A) (ts : List Lexeme) (answer : Answer A)
    → IsExact rule ts answer
    → length (left answer) ≤ length ts
left-shorter rule ts answer e =
    let f = left-front rule ts answer e in
    omega (arith, ap (λ (xs : List Lexeme). length xs) f.1, length-append f.0 (left answer))

-- ---- sets and levels

-- a choice is as wide as its rules
pub or_widens : {A : Type 0} {G W H V : Grammar A} → ((ts : List Lexeme) (a : A) → G ts a → W ts a)
    → ((ts : List Lexeme) (a : A) → H ts a → V ts a) → (ts : List Lexeme) (a : A) → (G or H) ts a
    → (W or V) ts a
or_widens wide wide' ts a (inl phrase) = inl (wide ts a phrase)
or_widens wide wide' ts a (inr phrase) = inr (wide' ts a phrase)

-- no lexeme has a kind of both sets
abbrev pub IsApart : Kinds → Kinds → Type 0
IsApart a b = (l : Lexeme) → a (kind_of l) ≡ true → b (kind_of l) ≡ true → ⊥

-- on shorter lists
pub reads_shorter : {A : Type 0} {F M : Kinds} {e : Bool} {n : ℕ} {G W : Grammar A} {p : Parser A} (m : ℕ)
    → m ≤ n → Reads F M e n G W p → Reads F M e m G W p
reads_shorter m less r = record {
  plain = r.plain;
  widens = r.widens;
  exact = λ ts short. r.exact ts (omega arith);
  moves = λ t ts short first. r.moves t ts (omega arith) first;
}

-- with the same kinds that begin, and no fewer that follow
pub reads_with : {A : Type 0} {F M : Kinds} {e : Bool} {n : ℕ} {G W : Grammar A}
    {p : Parser A} (F' M' : Kinds) → Reads F M e n G W p
    → ((l : Lexeme) → F (kind_of l) ≡ F' (kind_of l))
    → ((l : Lexeme) → M (kind_of l) ≡ true → M' (kind_of l) ≡ true) → Reads F' M' e n G W p
reads_with F' M' r same more = record {
  plain = record {
    begins = λ t ts a phrase. sym (same t) ∙ r.plain.begins t ts a phrase;
    goes_on = λ u t v a b phrase longer. more t (r.plain.goes_on u t v a b phrase longer);
    may_be_empty = r.plain.may_be_empty;
    is_empty = r.plain.is_empty;
    one = r.plain.one;
    some = r.plain.some;
  };
  widens = r.widens;
  exact = r.exact;
  moves = λ t ts short first. r.moves t ts short (same t ∙ first);
}

-- a parser reads what another rule of the same phrases says
pub reads_same : {A : Type 0} {F M : Kinds} {e : Bool} {n : ℕ} {G W : Grammar A}
    {p : Parser A} (G' W' : Grammar A)
    → ((ts : List Lexeme) (a : A) → G ts a → G' ts a) → ((ts : List Lexeme) (a : A) → G' ts a → G ts a)
    → ((ts : List Lexeme) (a : A) → W ts a → W' ts a) → Reads F M e n G W p → Reads F M e n G' W' p
reads_same {A} {G = G} {p = p} G' W' to from wide r = record {
  plain = record {
    begins = λ t ts a w. r.plain.begins t ts a (from (t ∷ ts) a w);
    goes_on = λ u t v a b w longer. r.plain.goes_on u t v a b (from u a w) (from (u ++ t ∷ v) b longer);
    may_be_empty = λ a w. r.plain.may_be_empty a (from [] a w);
    is_empty = λ is. let phrase = r.plain.is_empty is in (phrase.0, to [] phrase.0 phrase.1);
    one = λ ts a b w w'. r.plain.one ts a b (from ts a w) (from ts b w');
    some = let phrase = r.plain.some in (phrase.0, phrase.1, to phrase.0 phrase.1 phrase.2);
  };
  widens = λ ts a w. wide ts a (r.widens ts a (from ts a w));
  exact = λ ts short. exact_same ts (p ts) (r.exact ts short);
  moves = r.moves;
}
  where
    stops-same' : (read rest : List Lexeme) → Stops G read rest → Stops G' read rest
    stops-same' read rest stops t more is v b longer = stops t more is v b (from (read ++ t ∷ v) b longer)

    exact_same : (ts : List Lexeme) (answer : Answer A) → IsExact G ts answer → IsExact G' ts answer
    exact_same ts (Ok x) f = record {
      read = f.read;
      all = f.all;
      phrase = to f.read x.0 f.phrase;
      stops = stops-same' f.read x.1 f.stops;
    }
    exact_same ts (Err rest) g = record {
      read = g.read;
      all = g.all;
      next = g.next;
      more = g.more;
      value = g.value;
      begins = to (g.read ++ g.next ∷ g.more) g.value g.begins;
      none = λ a w. g.none a (from g.read a w);
      stops = stops-same' g.read rest g.stops;
    }
