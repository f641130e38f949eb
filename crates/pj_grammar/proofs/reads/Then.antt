-- One rule behind the other.
use Rattle.std.proofs.Common.{◌≡◌, ℕ, suc, ◌<◌, ◌≤◌, Bool, true, false, ◌&&◌, ◌||◌, List, [], ◌∷◌, ◌++◌}
use Rattle.std.proofs.Common.{length, Ok, Err, refl, sym, ap, ◌∙◌, ◌⊎◌, inl, inr, arith, append_assoc}
use Rattle.std.proofs.Common.{append-nil, length-append, le_trans}
use Rattle.std.proofs.lemmas.Bool.{cases_Bool, or_left, or_right, and_parts, and_from}
use Rattle.pj_grammar.specs.Lexemes.{Lexeme}
use Rattle.pj_grammar.specs.grammar.Ebnf.{Grammar, Then, Nothing, ◌>>=◌}
use Rattle.pj_grammar.specs.parsing.Parser.{Answer, Parser, after, nothing_at, ◌>>=◌ as ◌>=>◌}
use Rattle.pj_grammar.proofs.kinds.Sets.{Kinds, kind_of, ◌∪◌, when, apart}
use Rattle.pj_grammar.proofs.kinds.SetLemmas.{apart-not}
use Rattle.pj_grammar.proofs.reads.Reads.{Stops, Found, Stuck, IsExact, left, Plain, Reads}
use Rattle.pj_grammar.proofs.reads.Phrases.{IsLonger, splits, stops-end, stops-front, stops-same, stops-by}
use Rattle.pj_grammar.proofs.reads.Phrases.{left-shorter, IsApart, reads_with}
use Rattle.pj_grammar.proofs.reads.One.{nothing_reads}

-- a test of two kinds that isn't passed by the first one
pub or_second : (x y : Bool) → x ≡ false → (x || y) ≡ true → y ≡ true
or_second true y no' h = absurd cc
or_second false y no' h = h

-- a set beside none
pub or_none : (x : Bool) → (x || false) ≡ x
or_none true = refl
or_none false = refl

-- ---- phrases

module _ {A B : Type 0} {F M F' M' : Kinds} {e e' : Bool} {G : Grammar A} {H : A → Grammar B}
    (first : Plain F M e G) (second : (a : A) → Plain F' M' e' (H a)) (separate : IsApart M F') where
  -- what could follow a phrase of the first rule doesn't begin one of the second
  shorter-not : (u u' v v' : List Lexeme) (a a' : A) (b : B) → G u a → G u' a' → H a' v' b
      → IsLonger u' v' u v → ⊥
  shorter-not u u' v v' a a' b phrase phrase' behind longer =
      separate longer.next
      (first.goes_on u' longer.next longer.more a' a phrase' (rw longer.front_is at phrase))
      ((second a').begins longer.next (longer.more ++ v) b (rw longer.back_is at behind))

  -- behind a phrase that stops, a phrase of the whole has one of the second rule
  pub behind : (u w : List Lexeme) (a : A) (b : B) → G u a → Stops G u w → Then G H (u ++ w) b → H a w b
  behind u w a b phrase stops whole =
      go whole.front whole.back whole.found whole.one whole.other
      (splits u w whole.front whole.back whole.all)
    where
      go : (u' v' : List Lexeme) (a' : A) → G u' a' → H a' v' b
          → ((u ≡ u') × (w ≡ v')) ⊎ (IsLonger u w u' v' ⊎ IsLonger u' v' u w) → H a w b
      go u' v' a' phrase' behind' (inl is) =
          let same : a ≡ a' = first.one u a a' phrase (rw (← is.0) at phrase') in
          rw (same, is.1) behind'
      go u' v' a' phrase' behind' (inr (inl longer)) =
          absurd
          (stops longer.next (longer.more ++ v') longer.back_is longer.more a'
          (rw longer.front_is at phrase'))
      go u' v' a' phrase' behind' (inr (inr longer)) =
          absurd (shorter-not u u' w v' a a' b phrase phrase' behind' longer)

  -- behind what is no phrase and stops, there is no phrase of the whole
  pub behind-stuck : (u w v : List Lexeme) (a : A) (b : B) → G (u ++ v) a → ((a' : A) → G u a' → ⊥)
      → Stops G u w → Then G H (u ++ w) b → ⊥
  behind-stuck u w v a b begun none stops whole =
      go whole.front whole.back whole.found whole.one whole.other
      (splits u w whole.front whole.back whole.all)
    where
      go : (u' v' : List Lexeme) (a' : A) → G u' a' → H a' v' b
          → ((u ≡ u') × (w ≡ v')) ⊎ (IsLonger u w u' v' ⊎ IsLonger u' v' u w) → ⊥
      go u' v' a' phrase' behind' (inl is) = none a' (rw (← is.0) at phrase')
      go u' v' a' phrase' behind' (inr (inl longer)) =
          stops longer.next (longer.more ++ v') longer.back_is longer.more a' (rw longer.front_is at phrase')
      go u' v' a' phrase' behind' (inr (inr longer)) =
          separate longer.next
          (first.goes_on u' longer.next (longer.more ++ v) a' a phrase'
          (rw append_assoc at (rw longer.front_is at begun)))
          ((second a').begins longer.next (longer.more ++ w) b (rw longer.back_is at behind'))

  -- a phrase stops before a phrase of the second rule, also in front of more
  stops-before : (u v w : List Lexeme) (s : Lexeme) (a a' : A) (b : B) → G u a → H a' (s ∷ v) b
      → Stops G u (s ∷ w)
  stops-before u v w s a a' b phrase behind' =
      stops-by first u (s ∷ w) a phrase
      (λ t more is in_more.
      let same : t ≡ s = cc in
      separate s (rw same at in_more) ((second a').begins s v b behind'))

  -- ---- the whole

  -- what begins a phrase of the whole
  then_begins : (t : Lexeme) (ts : List Lexeme) (b : B) → Then G H (t ∷ ts) b
      → (F ∪ (when e F')) (kind_of t) ≡ true
  then_begins t ts b whole = go whole.front whole.back whole.found whole.all whole.one whole.other
    where
      go : (u v : List Lexeme) (a : A) → t ∷ ts ≡ u ++ v → G u a → H a v b
          → (F ∪ (when e F')) (kind_of t) ≡ true
      go [] v a is phrase behind' =
          or_right (F (kind_of t)) _
          (and_from e _ (first.may_be_empty a phrase) ((second a).begins t ts b (rw (← is) at behind')))
      go (s ∷ u) v a is phrase behind' =
          let same : s ≡ t = cc in or_left (F (kind_of t)) _ (first.begins t u a (rw same at phrase))

  -- both are empty where the whole is
  then_empty : (b : B) → Then G H [] b → (e && e') ≡ true
  then_empty b whole = go whole.front whole.back whole.found whole.all whole.one whole.other
    where
      go : (u v : List Lexeme) (a : A) → [] ≡ u ++ v → G u a → H a v b → (e && e') ≡ true
      go [] v a is phrase behind' =
          and_from e e' (first.may_be_empty a phrase) ((second a).may_be_empty b (rw (← is) at behind'))
      go (s ∷ u) v a is phrase behind' = absurd cc

  -- the whole is empty where both may be
  then_is_empty : (e && e') ≡ true → (b : B) × Then G H [] b
  then_is_empty both_empty =
      let flags = and_parts e e' both_empty in
      let phrase = first.is_empty flags.0 in
      let behind' = (second phrase.0).is_empty flags.1 in (
        behind'.0,
        record { front = []; back = []; found = phrase.0; all = refl; one = phrase.1; other = behind'.1 },
      )

  -- a longer phrase has the same phrase of the first rule in front, unless what follows could follow that too
  then_goes_on : (ts : List Lexeme) (t : Lexeme) (w : List Lexeme) (b b' : B) → Then G H ts b
      → Then G H (ts ++ t ∷ w) b'
      → (M' ∪ (when e' M)) (kind_of t) ≡ true
  then_goes_on ts t w b b' whole longer =
      go whole.front whole.back whole.found whole.all whole.one whole.other
    where
      go : (u v : List Lexeme) (a : A) → ts ≡ u ++ v → G u a → H a v b
          → (M' ∪ (when e' M)) (kind_of t) ≡ true
      go u (s ∷ v) a is phrase behind' =
          let same : Then G H (u ++ (s ∷ (v ++ t ∷ w))) b' = rw append_assoc at (rw is at longer) in
          or_left (M' (kind_of t)) _
          ((second a).goes_on (s ∷ v) t w b b' behind'
          (behind u (s ∷ v ++ t ∷ w) a b' phrase (stops-before u v (v ++ t ∷ w) s a a b phrase behind') same))
      go u [] a is phrase behind' = elim (cases_Bool (M (kind_of t))) [
        | inl yes' ↦ or_right (M' (kind_of t)) _ (and_from e' _ ((second a).may_be_empty b behind') yes')
        | inr no' ↦
            let same : Then G H (u ++ t ∷ w) b' = rw (append-nil u) at (rw is at longer) in
            or_left (M' (kind_of t)) _
            ((second a).goes_on [] t w b b' behind'
            (behind u (t ∷ w) a b' phrase
            (stops-by first u (t ∷ w) a phrase
            (λ t' more is' in_more. let at_t : t' ≡ t = cc in let k = rw at_t at in_more in cc)) same))
      ]

  -- a phrase of the whole has one value
  then_one : (ts : List Lexeme) (b b' : B) → Then G H ts b → Then G H ts b' → b ≡ b'
  then_one ts b b' whole other = go whole.front whole.back whole.found whole.all whole.one whole.other
    where
      go : (u v : List Lexeme) (a : A) → ts ≡ u ++ v → G u a → H a v b → b ≡ b'
      go u [] a is phrase behind' =
          (second a).one [] b b' behind' (behind u [] a b' phrase (stops-end G u) (rw is at other))
      go u (s ∷ v) a is phrase behind' =
          (second a).one (s ∷ v) b b' behind'
          (behind u (s ∷ v) a b' phrase (stops-before u v v s a a b phrase behind') (rw is at other))

  -- some phrase of the whole
  then_some : (ts : List Lexeme) × (b : B) × Then G H ts b
  then_some =
      let phrase = first.some in
      let more = (second phrase.1).some in (
        phrase.0 ++ more.0,
        more.1,
        record {
          front = phrase.0;
          back = more.0;
          found = phrase.1;
          all = refl;
          one = phrase.2;
          other = more.2;
        },
      )

  -- the sets of the whole
  pub then_plain : Plain (F ∪ (when e F')) (M' ∪ (when e' M)) (e && e') (Then G H)
  then_plain = record {
    begins = then_begins;
    goes_on = then_goes_on;
    may_be_empty = then_empty;
    is_empty = then_is_empty;
    one = then_one;
    some = then_some;
  }

-- ---- what is read

-- the second parser reads lists as long as those that the first one leaves
abbrev pub IsDeep : Bool → ℕ → ℕ → Type 0
IsDeep e n m = (n ≤ m) ⊎ ((e ≡ false) × (n ≤ suc m))

module _ {A B : Type 0} {F M F' M' : Kinds} {e e' : Bool} {n m : ℕ} {G W : Grammar A}
    {H V : A → Grammar B} {p : Parser A} {q : A → Parser B}
    (first : Reads F M e n G W p) (second : (a : A) → Reads F' M' e' m (H a) (V a) (q a))
    (separate : IsApart M F') (deep : IsDeep e n m) where
  -- what the first parser leaves isn't too long for the second
  rest-short : (ts : List Lexeme) (a : A) (rest : List Lexeme) → length ts ≤ n → Found G ts a rest
      → length rest ≤ m
  rest-short ts a rest short f = go deep f.read f.all f.phrase
    where
      go : IsDeep e n m → (read : List Lexeme) → ts ≡ read ++ rest → G read a → length rest ≤ m
      go (inl less) read all phrase =
          omega (arith, ap (λ (xs : List Lexeme). length xs) all, length-append read rest)
      go (inr less) [] all phrase =
          let no' = first.plain.may_be_empty a phrase in absurd (let no2 = less.0 in cc)
      go (inr less) (t ∷ read) all phrase =
          let k = less.1 in omega (arith, ap (λ (xs : List Lexeme). length xs) all, length-append read rest)

  -- the first stops still, where the second has read on
  stops-on : (ts : List Lexeme) (a : A) (rest read left' : List Lexeme) (f : Found G ts a rest)
      → rest ≡ read ++ left'
      → (t : Lexeme) (more : List Lexeme) → left' ≡ t ∷ more → (v : List Lexeme)
      → Stops G f.read (read ++ t ∷ v)
  stops-on ts a rest read left' f all t more is v =
      stops-same G f.read read v t more (rw is at (rw all at f.stops))

  -- the first parser finds a phrase
  exact_found : (ts : List Lexeme) (a : A) (rest : List Lexeme) → Found G ts a rest → (answer : Answer B)
      → IsExact (H a) rest answer
      → IsExact (Then G H) ts answer
  exact_found ts a rest f (Ok x) g = record {
    read = f.read ++ g.read;
    all = f.all ∙ rw (g.all, append_assoc) refl;
    phrase = record {
      front = f.read;
      back = g.read;
      found = a;
      all = refl;
      one = f.phrase;
      other = g.phrase;
    };
    stops = λ t more is v b longer.
        g.stops t more is v b
        (behind first.plain (λ a'. (second a').plain) separate f.read (g.read ++ t ∷ v) a b f.phrase
        (stops-on ts a rest g.read x.1 f g.all t more is v) (rw append_assoc at longer));
  }
  exact_found ts a rest f (Err rest') g = record {
    read = f.read ++ g.read;
    all = f.all ∙ rw (g.all, append_assoc) refl;
    next = g.next;
    more = g.more;
    value = g.value;
    begins = record {
      front = f.read;
      back = g.read ++ g.next ∷ g.more;
      found = a;
      all = append_assoc f.read g.read (g.next ∷ g.more);
      one = f.phrase;
      other = g.begins;
    };
    none = λ b whole.
        g.none b
        (behind first.plain (λ a'. (second a').plain) separate f.read g.read a b f.phrase
        (stops-front G f.read g.read rest' (rw g.all at f.stops)) whole);
    stops = λ t more is v b longer.
        g.stops t more is v b
        (behind first.plain (λ a'. (second a').plain) separate f.read (g.read ++ t ∷ v) a b f.phrase
        (stops-on ts a rest g.read rest' f g.all t more is v) (rw append_assoc at longer));
  }

  -- the first parser is stuck
  exact_stuck : (ts rest : List Lexeme) → Stuck G ts rest → Stuck (Then G H) ts rest
  exact_stuck ts rest g =
      let behind' = (second g.value).plain.some in
      record {
        read = g.read;
        all = g.all;
        next = g.next;
        more = g.more ++ behind'.0;
        value = behind'.1;
        begins = record {
          front = g.read ++ g.next ∷ g.more;
          back = behind'.0;
          found = g.value;
          all = sym (append_assoc g.read (g.next ∷ g.more) behind'.0);
          one = g.begins;
          other = behind'.2;
        };
        none = λ b whole.
            behind-stuck first.plain (λ a'. (second a').plain) separate g.read []
            (g.next ∷ g.more) g.value b g.begins g.none
            (stops-end G g.read) (rw append-nil whole);
        stops = λ t more is v b longer.
            behind-stuck first.plain (λ a'. (second a').plain) separate g.read (t ∷ v)
            (g.next ∷ g.more) g.value b g.begins g.none
            (stops-same G g.read [] v t more (rw is at g.stops)) longer;
      }

  -- the answer of both is exact
  then_exact : (ts : List Lexeme) → length ts ≤ n → (answer : Answer A) → IsExact G ts answer
      → IsExact (Then G H) ts (after answer q)
  then_exact ts short (Ok x) f =
      exact_found ts x.0 x.1 f (q x.0 x.1) ((second x.0).exact x.1 (rest-short ts x.0 x.1 short f))
  then_exact ts short (Err rest) g = exact_stuck ts rest g

  -- a parser behind another leaves no more than that one
  after-shorter : (ts : List Lexeme) → length ts ≤ n → (answer : Answer A) → IsExact G ts answer
      → length (left (after answer q)) ≤ length (left answer)
  after-shorter ts short (Ok x) f =
      left-shorter (H x.0) x.1 (q x.0 x.1) ((second x.0).exact x.1 (rest-short ts x.0 x.1 short f))
  after-shorter ts short (Err rest) g = omega arith

  -- the first parser reads nothing, and the second one moves
  second-moves : (t : Lexeme) (ts : List Lexeme) → length ts < n → F (kind_of t) ≡ false → e ≡ true
      → F' (kind_of t) ≡ true
      → (answer : Answer A) → IsExact G (t ∷ ts) answer → length (left (after answer q)) ≤ length ts
  second-moves t ts short no' empty yes' (Ok x) f = go deep f.read f.all f.phrase
    where
      go : IsDeep e n m → (read : List Lexeme) → t ∷ ts ≡ read ++ x.1 → G read x.0
          → length (left (q x.0 x.1)) ≤ length ts
      go (inl less) [] all phrase = rw (← all) ((second x.0).moves t ts (omega arith) yes')
      go (inr less) [] all phrase = let not_empty = less.0 in absurd cc
      go less (s ∷ read) all phrase =
          let in_first = first.plain.begins s read x.0 phrase in
          let same : s ≡ t = cc in
          let k = rw same at in_first in
          absurd cc
  second-moves t ts short no' empty yes' (Err rest) g = absurd (go g.read g.all g.begins g.none)
    where
      go : (read : List Lexeme) → t ∷ ts ≡ read ++ rest → G (read ++ g.next ∷ g.more) g.value
          → ((a : A) → G read a → ⊥) → ⊥
      go [] all begins none = let phrase = first.plain.is_empty empty in none phrase.0 phrase.1
      go (s ∷ read) all begins none =
          let in_first = first.plain.begins s (read ++ g.next ∷ g.more) g.value begins in
          let same : s ≡ t = cc in
          let k = rw same at in_first in
          cc

  -- where a lexeme begins a phrase of the whole, some are read
  then_moves : (t : Lexeme) (ts : List Lexeme) → length ts < n → (F ∪ (when e F')) (kind_of t) ≡ true
      → length (left (after (p (t ∷ ts)) q)) ≤ length ts
  then_moves t ts short in_whole =
      let exact : IsExact G (t ∷ ts) (p (t ∷ ts)) = first.exact (t ∷ ts) (omega arith) in
      elim (cases_Bool (F (kind_of t))) [
        | inl yes' ↦
            le_trans (after-shorter (t ∷ ts) (omega arith) (p (t ∷ ts)) exact) (first.moves t ts short yes')
        | inr no' ↦
            let parts : (e && F' (kind_of t)) ≡ true = or_second (F (kind_of t)) _ no' in_whole in
            let flags = and_parts e (F' (kind_of t)) parts in
            second-moves t ts short no' flags.0 flags.1 (p (t ∷ ts)) exact
      ]

  -- the second parser reads shorter lists too, where the first one always reads
  pub then_reads_deep : Reads (F ∪ (when e F')) (M' ∪ (when e' M)) (e && e') n (G >>= H) (W >>= V)
      (p >=> q)
  then_reads_deep = record {
    plain = then_plain first.plain (λ a. (second a).plain) separate;
    widens = λ ts b whole. record {
      front = whole.front;
      back = whole.back;
      found = whole.found;
      all = whole.all;
      one = first.widens whole.front whole.found whole.one;
      other = (second whole.found).widens whole.back b whole.other;
    };
    exact = λ ts short. then_exact ts short (p ts) (first.exact ts short);
    moves = then_moves;
  }

-- behind a rule that is never empty, the same lexemes begin
pub then_reads_first : {A B : Type 0} {F M F' M' : Kinds} {e' : Bool} {n m : ℕ} {G W : Grammar A}
    {H V : A → Grammar B} {p : Parser A} {q : A → Parser B}
    → Reads F M false n G W p → ((a : A) → Reads F' M' e' m (H a) (V a) (q a)) → IsApart M F'
    → IsDeep false n m
    → Reads F (M' ∪ (when e' M)) false n (G >>= H) (W >>= V) (p >=> q)
then_reads_first {F = F} {M = M} {M' = M'} {e' = e'} first second separate deep =
    reads_with F (M' ∪ (when e' M)) (then_reads_deep first second separate deep)
    (λ l. or_none (F (kind_of l))) (λ l yes'. yes')

-- with another value
pub mapped_reads : {A B : Type 0} {F M : Kinds} {e : Bool} {n : ℕ} {G W : Grammar A} {p : Parser A}
    → Reads F M e n G W p
    → (f : A → B)
    → Reads F M e n (G >>= λ a. Nothing (f a)) (W >>= λ a. Nothing (f a)) (p >=> λ a. nothing_at (f a))
mapped_reads {F = F} {M = M} {e = true} {n = n} r f =
    reads_with F M (then_reads_deep r (λ a. nothing_reads (f a) n) (λ l in_more in_none. cc)
    (inl (omega arith)))
    (λ l. or_none (F (kind_of l))) (λ l yes'. yes')
mapped_reads {F = F} {M = M} {e = false} {n = n} r f =
    reads_with F M (then_reads_deep r (λ a. nothing_reads (f a) n) (λ l in_more in_none. cc)
    (inl (omega arith)))
    (λ l. or_none (F (kind_of l))) (λ l yes'. yes')

-- ---- with sets that are computed

-- one rule behind the other
pub then_reads : {A B : Type 0} {F M F' M' : Kinds} {e e' : Bool} {n : ℕ} {G W : Grammar A}
    {H V : A → Grammar B} {p : Parser A} {q : A → Parser B}
    → Reads F M e n G W p → ((a : A) → Reads F' M' e' n (H a) (V a) (q a)) → apart M F' ≡ true
    → Reads (F ∪ (when e F')) (M' ∪ (when e' M)) (e && e') n (G >>= H) (W >>= V) (p >=> q)
then_reads {M = M} {F' = F'} first second separate =
    then_reads_deep first second (apart-not M F' separate) (inl (omega arith))

-- behind a rule that is never empty
pub then_reads_some : {A B : Type 0} {F M F' M' : Kinds} {e' : Bool} {n : ℕ} {G W : Grammar A}
    {H V : A → Grammar B} {p : Parser A} {q : A → Parser B}
    → Reads F M false n G W p → ((a : A) → Reads F' M' e' n (H a) (V a) (q a)) → apart M F' ≡ true
    → Reads F (M' ∪ (when e' M)) false n (G >>= H) (W >>= V) (p >=> q)
then_reads_some {M = M} {F' = F'} first second separate =
    then_reads_first first second (apart-not M F' separate) (inl (omega arith))

-- behind a rule that is never empty, shorter lists are left
pub then_reads_suc : {A B : Type 0} {F M F' M' : Kinds} {e' : Bool} {n : ℕ} {G W : Grammar A}
    {H V : A → Grammar B} {p : Parser A} {q : A → Parser B}
    → Reads F M false (suc n) G W p → ((a : A) → Reads F' M' e' n (H a) (V a) (q a)) → apart M F' ≡ true
    → Reads F (M' ∪ (when e' M)) false (suc n) (G >>= H) (W >>= V) (p >=> q)
then_reads_suc {M = M} {F' = F'} first second separate =
    then_reads_first first second (apart-not M F' separate) (inr (refl, omega arith))

-- the second parser reads lists of another length
pub then_reads_to : {A B : Type 0} {F M F' M' : Kinds} {e e' : Bool} {n m : ℕ} {G W : Grammar A}
    {H V : A → Grammar B} {p : Parser A} {q : A → Parser B}
    → Reads F M e n G W p → ((a : A) → Reads F' M' e' m (H a) (V a) (q a)) → apart M F' ≡ true → IsDeep e n m
    → Reads (F ∪ (when e F')) (M' ∪ (when e' M)) (e && e') n (G >>= H) (W >>= V) (p >=> q)
then_reads_to {M = M} {F' = F'} first second separate deep =
    then_reads_deep first second (apart-not M F' separate) deep
