-- The symbol at the start is the longest that stands there.
use Rattle.std.proofs.Common.{◌≡◌, ℕ, Bool, true, false, cond, eqb, List, [], ◌∷◌, ◌++◌, ◌&&◌, Option}
use Rattle.std.proofs.Common.{Some, None, Contains, refl, sym, ap, subst, ◌∙◌, ◌⊎◌, inl, inr, arith}
use Rattle.std.proofs.lemmas.Bool.{eqb-true}
use Rattle.std.proofs.lemmas.List.Elements.{All-contains, All-from_recursion}
use Rattle.std.specs.List.{AllByRecursion}
use Rattle.std.proofs.lemmas.Option.{some_pair_parts, none-some}
use Rattle.pj_lex.specs.declared.token.Symbol.{Symbol}
use Rattle.pj_lex.specs.declared.token.Symbol.TheVariants as symbols
use Rattle.pj_lex.specs.Tokens.{spellings, IsLongest}
use Rattle.pj_lex.specs.TokenReading.{FoundSymbol, symbol_of_one, symbol_of_two, before}
use Rattle.pj_lex.specs.TokenReading.{one_at, two_at, first_found, symbol_at}
use Rattle.pj_lex.proofs.TokenBytes.{choice}

-- ---- spellings have one byte or two

-- this byte is the spelling
abbrev IsOne : Symbol → List ℕ → Type 0
IsOne s bytes = (b : ℕ) × (bytes ≡ b ∷ []) × (symbol_of_one b ≡ Some s)

-- these two bytes are the spelling
abbrev IsTwo : Symbol → List ℕ → Type 0
IsTwo s bytes = (b : ℕ) × (c : ℕ) × (bytes ≡ b ∷ c ∷ []) × (symbol_of_two b c ≡ Some s)

-- the spelling is short
abbrev IsShort : Symbol → List ℕ → Type 0
IsShort s bytes = IsOne s bytes ⊎ IsTwo s bytes

-- each spelling has one byte or two, and its bytes are read as the symbol
are_short : (s : Symbol) → AllByRecursion (IsShort s) (spellings s)
are_short symbols.Left = (inl (40, refl, refl), tt)
are_short symbols.Right = (inl (41, refl, refl), tt)
are_short symbols.Comma = (inl (44, refl, refl), tt)
are_short symbols.Semicolon = (inl (59, refl, refl), tt)
are_short symbols.Star = (inl (42, refl, refl), tt)
are_short symbols.Plus = (inl (43, refl, refl), tt)
are_short symbols.Percent = (inl (37, refl, refl), tt)
are_short symbols.Eq = (inl (61, refl, refl), (inr (61, 61, refl, refl), tt))
are_short symbols.Ne = (inr (33, 61, refl, refl), (inr (60, 62, refl, refl), tt))
are_short symbols.Lt = (inl (60, refl, refl), tt)
are_short symbols.Le = (inr (60, 61, refl, refl), tt)
are_short symbols.Gt = (inl (62, refl, refl), tt)
are_short symbols.Ge = (inr (62, 61, refl, refl), tt)

-- so a spelling of a symbol has
short : (s : Symbol) (bytes : List ℕ) → Contains (spellings s) bytes → IsShort s bytes
short s bytes is =
    All-contains (IsShort s) (spellings s) bytes
    (All-from_recursion (IsShort s) (spellings s) (are_short s)) is

-- the byte is tested for another one
one_case : (b k : ℕ) (t s : Symbol) (rest : Option Symbol) → cond (eqb b k) (Some t) rest ≡ Some s
    → Contains (spellings t) (k ∷ []) → (rest ≡ Some s → Contains (spellings s) (b ∷ []))
    → Contains (spellings s) (b ∷ [])
one_case b k t s rest e is others =
    elim (choice (eqb b k) (Some t) rest (Some s) e) [
      | inl h ↦ let same : t ≡ s = cc in rw (eqb-true b k h.0, ← same) is
      | inr h ↦ others h.1
    ]

-- the byte that is read as a symbol spells it
pub spells_one : (b : ℕ) (s : Symbol) → symbol_of_one b ≡ Some s → Contains (spellings s) (b ∷ [])
spells_one b s e =
    one_case b 40 symbols.Left s _ e (0, omega arith, refl) (λ e.
    one_case b 41 symbols.Right s _ e (0, omega arith, refl) (λ e.
    one_case b 44 symbols.Comma s _ e (0, omega arith, refl) (λ e.
    one_case b 59 symbols.Semicolon s _ e (0, omega arith, refl) (λ e.
    one_case b 42 symbols.Star s _ e (0, omega arith, refl) (λ e.
    one_case b 43 symbols.Plus s _ e (0, omega arith, refl) (λ e.
    one_case b 37 symbols.Percent s _ e (0, omega arith, refl) (λ e.
    one_case b 61 symbols.Eq s _ e (0, omega arith, refl) (λ e.
    one_case b 60 symbols.Lt s _ e (0, omega arith, refl) (λ e.
    one_case b 62 symbols.Gt s _ e (0, omega arith, refl) (λ e. absurd cc))))))))))

-- both tests passed
both_true : (a b : Bool) → (a && b) ≡ true → (a ≡ true) × (b ≡ true)
both_true true true e = (refl, refl)
both_true true false e = absurd cc
both_true false b e = absurd cc

-- the bytes are tested for two others
two_case : (b c k l : ℕ) (t s : Symbol) (rest : Option Symbol)
    → cond (eqb b k && eqb c l) (Some t) rest ≡ Some s → Contains (spellings t) (k ∷ l ∷ [])
    → (rest ≡ Some s → Contains (spellings s) (b ∷ c ∷ [])) → Contains (spellings s) (b ∷ c ∷ [])
two_case b c k l t s rest e is others =
    elim (choice (eqb b k && eqb c l) (Some t) rest (Some s) e) [
      | inl h ↦
          let tests = both_true (eqb b k) (eqb c l) h.0 in
          let same : t ≡ s = cc in
          rw (eqb-true b k tests.0, eqb-true c l tests.1, ← same) is
      | inr h ↦ others h.1
    ]

-- the two bytes that are read as a symbol spell it
pub spells_two : (b c : ℕ) (s : Symbol) → symbol_of_two b c ≡ Some s → Contains (spellings s) (b ∷ c ∷ [])
spells_two b c s e =
    two_case b c 61 61 symbols.Eq s _ e (1, omega arith, refl) (λ e.
    two_case b c 33 61 symbols.Ne s _ e (0, omega arith, refl) (λ e.
    two_case b c 60 62 symbols.Ne s _ e (1, omega arith, refl) (λ e.
    two_case b c 60 61 symbols.Le s _ e (0, omega arith, refl) (λ e.
    two_case b c 62 61 symbols.Ge s _ e (0, omega arith, refl) (λ e. absurd cc)))))

-- ---- what is found is spelled

-- the symbol at the start, and the bytes behind it
pub record IsSymbolPrefix (bytes : List ℕ) (symbol : Symbol) (rest : List ℕ) : Type 0 where
  pub text : List ℕ
  pub whole : bytes ≡ text ++ rest
  pub spelled : Contains (spellings symbol) text
  pub longest : IsLongest text rest

-- this symbol, with these bytes behind it
abbrev found : Symbol → List ℕ → Option FoundSymbol
found s rest = Some (s, rest)

-- the symbol that is found, and the bytes behind it
before-some : (rest rest' : List ℕ) (o : Option Symbol) (s : Symbol) → before rest o ≡ found s rest'
    → (o ≡ Some s) × (rest ≡ rest')
before-some rest rest' None s e = absurd cc
before-some rest rest' (Some t) s e =
    let parts = some_pair_parts t s rest rest' e in
    (ap Some parts.0, parts.1)

-- where nothing is found there is no symbol
before-none : (rest : List ℕ) (o : Option Symbol) → before rest o ≡ None → o ≡ None
before-none rest None e = refl
before-none rest (Some s) e = absurd cc

-- no symbol has three bytes
two_are_longest : (b c : ℕ) (rest : List ℕ) → IsLongest (b ∷ c ∷ []) rest
two_are_longest b c [] = tt
two_are_longest b c (d ∷ ds) =
    λ s is. elim (short s (b ∷ c ∷ d ∷ []) is) [
      | inl one ↦ let e = one.1 in absurd cc
      | inr two ↦ let e = two.2 in absurd cc
    ]

-- two bytes that are no symbol
no_two : (b c : ℕ) (s : Symbol) → symbol_of_two b c ≡ None → IsTwo s (b ∷ c ∷ []) → ⊥
no_two b c s none (d, e, is, some) =
    let first : b ≡ d = cc in
    let second : c ≡ e = cc in
    let same : symbol_of_two b c ≡ Some s = rw (first, second) some in
    none-some s (sym none ∙ same)

-- one byte is the longest symbol where two bytes are none
one_is_longest : (b : ℕ) (rest : List ℕ) → two_at (b ∷ rest) ≡ None → IsLongest (b ∷ []) rest
one_is_longest b [] none = tt
one_is_longest b (c ∷ cs) none = λ s is.
    elim (short s (b ∷ c ∷ []) is) [
      | inl one ↦ let e = one.1 in absurd cc
      | inr two ↦ no_two b c s (before-none cs (symbol_of_two b c) none) two
    ]

-- the symbol of one byte that is found stands at the start
one_at-found : (b : ℕ) (bs rest : List ℕ) (s : Symbol) → two_at (b ∷ bs) ≡ None
    → one_at (b ∷ bs) ≡ found s rest → IsSymbolPrefix (b ∷ bs) s rest
one_at-found b bs rest s none e =
    let parts = before-some bs rest (symbol_of_one b) s e in
    let longest : IsLongest (b ∷ []) rest =
    subst (λ (r : List ℕ). IsLongest (b ∷ []) r) parts.1 (one_is_longest b bs none) in
    record {
      text = b ∷ [];
      whole = ap (λ (r : List ℕ). b ∷ r) parts.1;
      spelled = spells_one b s parts.0;
      longest = longest;
    }

-- the symbol of two bytes that is found stands at the start
two_at-found : (bytes rest : List ℕ) (s : Symbol) → two_at bytes ≡ found s rest → IsSymbolPrefix bytes s rest
two_at-found [] rest s e = absurd cc
two_at-found (b ∷ []) rest s e = absurd cc
two_at-found (b ∷ c ∷ bs) rest s e =
    let parts = before-some bs rest (symbol_of_two b c) s e in
    record {
      text = b ∷ c ∷ [];
      whole = ap (λ (r : List ℕ). b ∷ c ∷ r) parts.1;
      spelled = spells_two b c s parts.0;
      longest = two_are_longest b c rest;
    }

-- the symbol that is found stands at the start
pub symbol_at-found : (bytes rest : List ℕ) (s : Symbol) → symbol_at bytes ≡ found s rest
    → IsSymbolPrefix bytes s rest
unfolding symbol_at
symbol_at-found [] rest s e = absurd cc
symbol_at-found (b ∷ bs) rest s e = by_two (two_at (b ∷ bs)) refl e
  where
    by_two : (o : Option FoundSymbol) → two_at (b ∷ bs) ≡ o → first_found o (one_at (b ∷ bs)) ≡ found s rest
        → IsSymbolPrefix (b ∷ bs) s rest
    by_two None none e = one_at-found b bs rest s none e
    by_two (Some x) is e = two_at-found (b ∷ bs) rest s (is ∙ e)

-- ---- what is spelled is found

-- where none of two is found each is missing
first_found-none : (o p : Option FoundSymbol) → first_found o p ≡ None → (o ≡ None) × (p ≡ None)
first_found-none None p e = (refl, e)
first_found-none (Some x) p e = absurd cc

-- where none is found, none stands at the start
pub symbol_at-none : (bytes : List ℕ) → symbol_at bytes ≡ None → (s : Symbol) (prefix back : List ℕ)
    → bytes ≡ prefix ++ back → Contains (spellings s) prefix → ⊥
unfolding symbol_at
symbol_at-none bytes e s prefix back whole is =
    let none = first_found-none (two_at bytes) (one_at bytes) e in
    elim (short s prefix is) [
      | inl (b, one, some) ↦
          let e : bytes ≡ b ∷ back = whole ∙ ap (λ (f : List ℕ). f ++ back) one in
          none-some s (sym (before-none back (symbol_of_one b) (sym (ap one_at e) ∙ none.1)) ∙ some)
      | inr (b, c, two, some) ↦
          let e : bytes ≡ b ∷ c ∷ back = whole ∙ ap (λ (f : List ℕ). f ++ back) two in
          none-some s (sym (before-none back (symbol_of_two b c) (sym (ap two_at e) ∙ none.0)) ∙ some)
    ]

-- the symbol of one byte that stands at the start is found
one_at-only : (b : ℕ) (more : List ℕ) (s : Symbol) → symbol_of_one b ≡ Some s → IsLongest (b ∷ []) more
    → symbol_at (b ∷ more) ≡ found s more
unfolding symbol_at
one_at-only b [] s one longest = rw one refl
one_at-only b (c ∷ cs) s one longest = by_two (symbol_of_two b c) refl
  where
    by_two : (o : Option Symbol) → symbol_of_two b c ≡ o
        → first_found (before cs o) (before (c ∷ cs) (symbol_of_one b)) ≡ found s (c ∷ cs)
    by_two None none = rw one refl
    by_two (Some t) is = absurd (longest t (spells_two b c t is))

-- the symbol of two bytes that stands at the start is found
two_at-only : (b c : ℕ) (more : List ℕ) (s : Symbol) → symbol_of_two b c ≡ Some s
    → symbol_at (b ∷ c ∷ more) ≡ found s more
unfolding symbol_at
two_at-only b c more s two = rw two refl

-- the symbol that stands at the start is found
pub symbol_at-only : (text more : List ℕ) (s : Symbol) → Contains (spellings s) text → IsLongest text more
    → symbol_at (text ++ more) ≡ found s more
symbol_at-only text more s is longest =
    elim (short s text is) [
      | inl (b, one, some) ↦
          ap (λ (t : List ℕ). symbol_at (t ++ more)) one
          ∙ one_at-only b more s some (subst (λ (t : List ℕ). IsLongest t more) one longest)
      | inr (b, c, two, some) ↦ ap (λ (t : List ℕ). symbol_at (t ++ more)) two ∙ two_at-only b c more s some
    ]

-- where none stands at the start, none is found
pub no_symbol : (bytes : List ℕ)
    → ((s : Symbol) (prefix back : List ℕ) → bytes ≡ prefix ++ back → Contains (spellings s) prefix → ⊥)
    → symbol_at bytes ≡ None
no_symbol bytes never = by_found (symbol_at bytes) refl
  where
    by_found : (o : Option FoundSymbol) → symbol_at bytes ≡ o → symbol_at bytes ≡ None
    by_found None e = e
    by_found (Some (s, rest)) e =
        let prefix = symbol_at-found bytes rest s e in
        absurd (never s prefix.text rest prefix.whole prefix.spelled)
