-- One rule or another, by the next two lexemes.
use Rattle.std.proofs.Common.{◌≡◌, ℕ, suc, ◌<◌, ◌≤◌, Bool, true, false, ◌||◌, List, [], ◌∷◌, ◌++◌, length, Ok}
use Rattle.std.proofs.Common.{Err, if◌then◌else◌, refl, sym, ap, ◌∙◌, inl, inr, ⊎_elim, arith, append-nil}
use Rattle.std.proofs.lemmas.Bool.{and_parts, or_left, or_right}
use Rattle.pj_grammar.specs.Lexemes.{Lexeme}
use Rattle.pj_grammar.specs.grammar.Ebnf.{Grammar, ◌or◌}
use Rattle.pj_grammar.specs.parsing.Parser.{Answer, Parser, begins, begins_both, ahead_at}
use Rattle.pj_grammar.proofs.kinds.Sets.{Kinds, kind_of, ◌∪◌}
use Rattle.pj_grammar.proofs.reads.Phrases.{or_widens}
use Rattle.pj_grammar.proofs.reads.Reads.{Stops, IsExact, left, Plain, Reads}

-- a list's first two lexemes pass two tests
pub record BeginsBoth (test other : Lexeme → Bool) (ts : List Lexeme) : Type 0 where
  pub one : Lexeme
  pub next : Lexeme
  pub more : List Lexeme
  pub all : ts ≡ one ∷ next ∷ more
  pub passes : test one ≡ true
  pub next_passes : other next ≡ true

-- what the test of two lexemes means
both-begin : (test other : Lexeme → Bool) (ts : List Lexeme) → begins_both test other ts ≡ true
    → BeginsBoth test other ts
unfolding begins begins_both
both-begin test other [] yes' = absurd cc
both-begin test other (t ∷ []) yes' =
    absurd (let parts = and_parts (test t) false yes' in let no' = parts.1 in cc)
both-begin test other (t ∷ u ∷ ts) yes' =
    let parts = and_parts (test t) (other u) yes' in
    record { one = t; next = u; more = ts; all = refl; passes = parts.0; next_passes = parts.1 }

-- and the other way round
begin-both : (test other : Lexeme → Bool) (ts : List Lexeme) → BeginsBoth test other ts
    → begins_both test other ts ≡ true
unfolding begins begins_both
begin-both test other ts b = rw (b.all, b.passes, b.next_passes) refl

-- with two lexemes in front, they begin a prefix that is long enough
begins-front : (test other : Lexeme → Bool) (s s' : Lexeme) (u w : List Lexeme)
    → BeginsBoth test other (s ∷ s' ∷ u)
    → BeginsBoth test other (s ∷ s' ∷ w)
begins-front test other s s' u w b =
    let first : s ≡ b.one = let all = b.all in cc in
    let second : s' ≡ b.next = let all = b.all in cc in
    record {
      one = s;
      next = s';
      more = w;
      all = refl;
      passes = rw first b.passes;
      next_passes = rw second b.next_passes;
    }

module _ {A : Type 0} {F M F' M' : Kinds} {n : ℕ} {G W H V : Grammar A} {p q : Parser A}
    (first : Reads F M false n G W p) (second : Reads F' M' false n H V q)
    (test other : Lexeme → Bool) (O : Kinds)
    (same : (l : Lexeme) → other l ≡ O (kind_of l))
    (heads : (ts : List Lexeme) (a : A) → G ts a → BeginsBoth test other ts)
    (goes : (t u : Lexeme) → test t ≡ true → other u ≡ true → (v : List Lexeme) × (a : A) × G (t ∷ u ∷ v) a)
    (lone : (t u : Lexeme) (v : List Lexeme) (a : A) → test t ≡ true → other u ≡ true → H (t ∷ u ∷ v) a → ⊥)
    (inside : (t : Lexeme) → test t ≡ true → F' (kind_of t) ≡ true) where
  -- ---- phrases

  -- behind a phrase of the first rule, no phrase of the second one
  heads-not : (u w : List Lexeme) (a b : A) → G u a → H (u ++ w) b → ⊥
  heads-not u w a b phrase behind =
      let h = heads u a phrase in lone h.one h.next (h.more ++ w) b h.passes h.next_passes
      (rw h.all at behind)

  -- what begins a phrase of the choice
  ahead_begins : (t : Lexeme) (ts : List Lexeme) (a : A) → (G or H) (t ∷ ts) a → F' (kind_of t) ≡ true
  ahead_begins t ts a (inl phrase) =
      let h = heads (t ∷ ts) a phrase in
      let at_t : t ≡ h.one = let all = h.all in cc in
      inside t (rw at_t h.passes)
  ahead_begins t ts a (inr phrase) = second.plain.begins t ts a phrase

  -- a phrase of the second rule that goes on as one of the first is one lexeme
  second_goes_on : (u : List Lexeme) (t : Lexeme) (v : List Lexeme) (a b : A) → H u a → G (u ++ t ∷ v) b
      → O (kind_of t) ≡ true
  second_goes_on [] t v a b phrase longer = absurd (let empty = second.plain.may_be_empty a phrase in cc)
  second_goes_on (s ∷ []) t v a b phrase longer =
      let h = heads (s ∷ t ∷ v) b longer in
      let at_t : t ≡ h.next = let all = h.all in cc in
      sym (same t) ∙ rw at_t h.next_passes
  second_goes_on (s ∷ s' ∷ u) t v a b phrase longer =
      let h = begins-front test other s s' (u ++ t ∷ v) u (heads (s ∷ s' ∷ u ++ t ∷ v) b longer) in
      absurd (lone h.one h.next h.more a h.passes h.next_passes (rw h.all at phrase))

  -- what follows in a longer phrase of the choice
  ahead_goes_on : (u : List Lexeme) (t : Lexeme) (v : List Lexeme) (a b : A) → (G or H) u a
      → (G or H) (u ++ t ∷ v) b
      → ((M ∪ M') ∪ O) (kind_of t) ≡ true
  ahead_goes_on u t v a b (inl phrase) (inl longer) =
      or_left (M (kind_of t) || M' (kind_of t)) _
      (or_left (M (kind_of t)) _ (first.plain.goes_on u t v a b phrase longer))
  ahead_goes_on u t v a b (inl phrase) (inr longer) = absurd (heads-not u (t ∷ v) a b phrase longer)
  ahead_goes_on u t v a b (inr phrase) (inl longer) =
      or_right (M (kind_of t) || M' (kind_of t)) _ (second_goes_on u t v a b phrase longer)
  ahead_goes_on u t v a b (inr phrase) (inr longer) =
      or_left (M (kind_of t) || M' (kind_of t)) _
      (or_right (M (kind_of t)) _ (second.plain.goes_on u t v a b phrase longer))

  -- a phrase of the choice has one value
  ahead_one : (ts : List Lexeme) (a b : A) → (G or H) ts a → (G or H) ts b → a ≡ b
  ahead_one ts a b (inl phrase) (inl phrase') = first.plain.one ts a b phrase phrase'
  ahead_one ts a b (inl phrase) (inr phrase') = absurd (heads-not ts [] a b phrase (rw append-nil phrase'))
  ahead_one ts a b (inr phrase) (inl phrase') = absurd (heads-not ts [] b a phrase' (rw append-nil phrase))
  ahead_one ts a b (inr phrase) (inr phrase') = second.plain.one ts a b phrase phrase'

  -- no phrase of the choice is empty
  ahead_empty : (a : A) → (G or H) [] a → false ≡ true
  ahead_empty a (inl phrase) = first.plain.may_be_empty a phrase
  ahead_empty a (inr phrase) = second.plain.may_be_empty a phrase

  -- the sets of the choice
  pub ahead_plain : Plain F' ((M ∪ M') ∪ O) false (G or H)
  ahead_plain = record {
    begins = ahead_begins;
    goes_on = ahead_goes_on;
    may_be_empty = ahead_empty;
    is_empty = λ no'. absurd cc;
    one = ahead_one;
    some = let phrase = first.plain.some in (phrase.0, phrase.1, inl phrase.2);
  }

  -- ---- the first rule is read

  -- what stops in a list whose two lexemes pass has them both, so the second rule doesn't go on there
  read-not : (ts read rest w : List Lexeme) (a : A) → BeginsBoth test other ts → ts ≡ read ++ rest
      → Stops G read rest → H (read ++ w) a → ⊥
  read-not ts [] rest w a h all stops phrase =
      let on = goes h.one h.next h.passes h.next_passes in
      stops h.one (h.next ∷ h.more) (sym all ∙ h.all) (h.next ∷ on.0) on.1 on.2
  read-not ts (s ∷ []) rest w a h all stops phrase =
      let is : s ∷ rest ≡ h.one ∷ h.next ∷ h.more = sym all ∙ h.all in
      let at_s : s ≡ h.one = cc in
      let on = goes h.one h.next h.passes h.next_passes in
      stops h.next h.more (cc) on.0 on.1 (rw at_s on.2)
  read-not ts (s ∷ s' ∷ read) rest w a h all stops phrase =
      let is : s ∷ s' ∷ (read ++ rest) ≡ h.one ∷ h.next ∷ h.more = sym all ∙ h.all in
      let at_s : s ≡ h.one = cc in
      let at_s' : s' ≡ h.next = cc in
      lone s s' (read ++ w) a (rw at_s h.passes) (rw at_s' h.next_passes) phrase

  -- what the first parser says is exact for the choice, where both lexemes pass
  exact_first : (ts : List Lexeme) → BeginsBoth test other ts → (answer : Answer A) → IsExact G ts answer
      → IsExact (G or H) ts answer
  exact_first ts h (Ok x) f = record {
    read = f.read;
    all = f.all;
    phrase = inl f.phrase;
    stops = λ t more is v b.
        ⊎_elim (f.stops t more is v b)
        (read-not ts f.read x.1 (t ∷ v) b h f.all f.stops);
  }
  exact_first ts h (Err rest) g = record {
    read = g.read;
    all = g.all;
    next = g.next;
    more = g.more;
    value = g.value;
    begins = inl g.begins;
    none = λ a. ⊎_elim (g.none a) (λ phrase. read-not ts g.read rest [] a h g.all g.stops
        (rw append-nil phrase));
    stops = λ t more is v b.
        ⊎_elim (g.stops t more is v b)
        (read-not ts g.read rest (t ∷ v) b h g.all g.stops);
  }

  -- ---- the second rule is read

  -- where the two lexemes don't both pass, no phrase of the first rule goes on from what was read
  phrase-not : (ts read rest : List Lexeme) (a : A) → (BeginsBoth test other ts → ⊥) → ts ≡ read ++ rest
      → G read a → ⊥
  phrase-not ts read rest a not_both all phrase =
      let h = heads read a phrase in
      not_both
      (record {
        one = h.one;
        next = h.next;
        more = h.more ++ rest;
        all = all ∙ ap (λ (xs : List Lexeme). xs ++ rest) h.all;
        passes = h.passes;
        next_passes = h.next_passes;
      })

  -- nor has it a phrase that goes on with the next lexeme, but for a first one that passes
  more-not : (ts read : List Lexeme) (t : Lexeme) (more v : List Lexeme) (a : A)
      → (BeginsBoth test other ts → ⊥) → ts ≡ read ++ t ∷ more
      → (read ≡ [] → test t ≡ true → ⊥) → G (read ++ t ∷ v) a → ⊥
  more-not ts [] t more v a not_both all not_first phrase =
      let h = heads (t ∷ v) a phrase in
      let at_t : t ≡ h.one = let is = h.all in cc in
      not_first refl (rw at_t h.passes)
  more-not ts (s ∷ []) t more v a not_both all not_first phrase =
      not_both (rw all (begins-front test other s t v more (heads (s ∷ t ∷ v) a phrase)))
  more-not ts (s ∷ s' ∷ read) t more v a not_both all not_first phrase =
      let h = heads (s ∷ s' ∷ read ++ t ∷ v) a phrase in
      not_both (rw all (begins-front test other s s' (read ++ t ∷ v) (read ++ t ∷ more) h))

  -- what moves has read something, where a lexeme passes the first test
  not-first : (ts read rest : List Lexeme) → length ts ≤ n → ts ≡ read ++ rest
      → ((t : Lexeme) (us : List Lexeme) → ts ≡ t ∷ us → F' (kind_of t) ≡ true → length rest ≤ length us)
      → (t : Lexeme) (more : List Lexeme) → rest ≡ t ∷ more → read ≡ [] → test t ≡ true → ⊥
  not-first ts read rest short all moves t more is none passes =
      let whole : ts ≡ t ∷ more = all ∙ rw (none, is) refl in
      let k = moves t more whole (inside t passes) in
      let same' : length rest ≡ suc (length more) = ap (λ (xs : List Lexeme). length xs) is in
      omega arith

  -- what the second parser says is exact for the choice, where the lexemes do not both pass
  exact_second : (ts : List Lexeme) → (BeginsBoth test other ts → ⊥) → length ts ≤ n → (answer : Answer A)
      → IsExact H ts answer
      → ((t : Lexeme) (us : List Lexeme) → ts ≡ t ∷ us → F' (kind_of t) ≡ true
      → length (left answer) ≤ length us)
      → IsExact (G or H) ts answer
  exact_second ts not_both short (Ok x) f moves = record {
    read = f.read;
    all = f.all;
    phrase = inr f.phrase;
    stops = λ t more is v b.
        ⊎_elim
        (more-not ts f.read t more v b not_both (f.all ∙ ap (λ (xs : List Lexeme). f.read ++ xs) is)
        (not-first ts f.read x.1 short f.all moves t more is))
        (f.stops t more is v b);
  }
  exact_second ts not_both short (Err rest) g moves = record {
    read = g.read;
    all = g.all;
    next = g.next;
    more = g.more;
    value = g.value;
    begins = inr g.begins;
    none = λ a. ⊎_elim (phrase-not ts g.read rest a not_both g.all) (g.none a);
    stops = λ t more is v b.
        ⊎_elim
        (more-not ts g.read t more v b not_both (g.all ∙ ap (λ (xs : List Lexeme). g.read ++ xs) is)
        (not-first ts g.read rest short g.all moves t more is))
        (g.stops t more is v b);
  }

  -- ---- the choice is read

  -- by whether the next two lexemes pass
  ahead_if : (ts : List Lexeme) → length ts ≤ n → (passes : Bool) → begins_both test other ts ≡ passes
      → IsExact (G or H) ts (if passes then p ts else q ts)
  ahead_if ts short true yes' = exact_first ts (both-begin test other ts yes') (p ts) (first.exact ts short)
  ahead_if ts short false no' =
      exact_second ts (λ h. let yes' = begin-both test other ts h in cc) short (q ts) (second.exact ts short)
      (λ t us is in_second.
      let k : length ts ≡ suc (length us) = ap (λ (xs : List Lexeme). length xs) is in
      rw is (second.moves t us (omega arith) in_second))

  -- where a lexeme begins a phrase of the second rule, some are read
  ahead_moves_if : (t : Lexeme) (ts : List Lexeme) → length ts < n → F' (kind_of t) ≡ true → (passes : Bool)
      → begins_both test other (t ∷ ts) ≡ passes
      → length (left (if passes then p (t ∷ ts) else q (t ∷ ts))) ≤ length ts
  ahead_moves_if t ts short in_second true yes' =
      let h = both-begin test other (t ∷ ts) yes' in
      let at_t : t ≡ h.one = let all = h.all in cc in
      let on = goes h.one h.next h.passes h.next_passes in
      first.moves t ts short (rw at_t (first.plain.begins h.one (h.next ∷ on.0) on.1 on.2))
  ahead_moves_if t ts short in_second false no' = second.moves t ts short in_second

  -- one rule or another, by the next two lexemes
  pub ahead_reads_both : Reads F' ((M ∪ M') ∪ O) false n (G or H) (W or V) (ahead_at test other p q)
  ahead_reads_both = record {
    plain = ahead_plain;
    widens = or_widens first.widens second.widens;
    exact = λ ts short. ahead_if ts short (begins_both test other ts) refl;
    moves = λ t ts short in_second.
        ahead_moves_if t ts short in_second (begins_both test other (t ∷ ts)) refl;
  }

-- one rule or another, by the next two lexemes
pub ahead_reads : {A : Type 0} {F M F' M' : Kinds} {n : ℕ} {G W H V : Grammar A} {p q : Parser A}
    → Reads F M false n G W p → Reads F' M' false n H V q → (test other : Lexeme → Bool) (O : Kinds)
    → ((l : Lexeme) → other l ≡ O (kind_of l))
    → ((ts : List Lexeme) (a : A) → G ts a
    → (t u : Lexeme) × (v : List Lexeme) × (ts ≡ t ∷ u ∷ v) × (test t ≡ true) × (other u ≡ true))
    → ((t u : Lexeme) → test t ≡ true → other u ≡ true → (v : List Lexeme) × (a : A) × G (t ∷ u ∷ v) a)
    → ((t u : Lexeme) (v : List Lexeme) (a : A) → test t ≡ true → other u ≡ true → H (t ∷ u ∷ v) a → ⊥)
    → ((t : Lexeme) → test t ≡ true → F' (kind_of t) ≡ true)
    → Reads F' ((M ∪ M') ∪ O) false n (G or H) (W or V) (ahead_at test other p q)
ahead_reads first second test other O same heads goes lone inside =
    ahead_reads_both first second test other O same
    (λ ts a phrase.
    let h = heads ts a phrase in
    record { one = h.0; next = h.1; more = h.2; all = h.3; passes = h.4; next_passes = h.5 })
    goes lone inside
