-- A parser reads a rule exactly: what it finds is a phrase of the rule that can't go on, and where it stops
-- the phrases can't go on either.
use Rattle.std.proofs.Common.{◌≡◌, ℕ, ◌<◌, ◌≤◌, Bool, true}
use Rattle.std.proofs.Common.{List, [], ◌∷◌, ◌++◌, length, Ok, Err}
use Rattle.pj_grammar.specs.Lexemes.{Lexeme}
use Rattle.pj_grammar.specs.grammar.Ebnf.{Grammar}
use Rattle.pj_grammar.specs.parsing.Parser.{Answer, Parser}
use Rattle.pj_grammar.proofs.kinds.Sets.{Kinds, kind_of}

-- the next lexeme can't follow these in a phrase of the rule
abbrev pub Stops : {A : Type 0} → Grammar A → List Lexeme → List Lexeme → Type 0
Stops {A} rule read rest =
    (t : Lexeme) (more : List Lexeme) → rest ≡ t ∷ more → (v : List Lexeme) (b : A) → rule (read ++ t ∷ v) b
    → ⊥

-- a phrase of the rule stands in front, and doesn't go on
pub record Found {A : Type 0} (rule : Grammar A) (ts : List Lexeme) (value : A)
    (rest : List Lexeme) : Type 0 where
  pub read : List Lexeme
  pub all : ts ≡ read ++ rest
  pub phrase : rule read value
  pub stops : Stops rule read rest

-- what stands in front begins a phrase of the rule, is none, and doesn't go on
pub record Stuck {A : Type 0} (rule : Grammar A) (ts rest : List Lexeme) : Type 0 where
  pub read : List Lexeme
  pub all : ts ≡ read ++ rest
  pub next : Lexeme
  pub more : List Lexeme
  pub value : A
  pub begins : rule (read ++ next ∷ more) value
  pub none : (a : A) → rule read a → ⊥
  pub stops : Stops rule read rest

-- the answer is exact
abbrev pub IsExact : {A : Type 0} → Grammar A → List Lexeme → Answer A → Type 0
IsExact rule ts (Ok x) = Found rule ts x.0 x.1
IsExact rule ts (Err rest) = Stuck rule ts rest

-- the lexemes that an answer leaves
abbrev pub left : {A : Type 0} → Answer A → List Lexeme
left (Ok x) = x.1
left (Err rest) = rest

-- the kinds that begin a phrase, those that may follow one in a longer one, whether no lexeme is a phrase,
-- and that a phrase has one value
pub record Plain {A : Type 0} (first more : Kinds) (empty : Bool) (rule : Grammar A) : Type 0 where
  pub begins : (t : Lexeme) (ts : List Lexeme) (a : A) → rule (t ∷ ts) a → first (kind_of t) ≡ true
  pub goes_on : (u : List Lexeme) (t : Lexeme) (v : List Lexeme) (a b : A) → rule u a → rule (u ++ t ∷ v) b
      → more (kind_of t) ≡ true
  pub may_be_empty : (a : A) → rule [] a → empty ≡ true
  pub is_empty : empty ≡ true → (a : A) × rule [] a
  pub one : (ts : List Lexeme) (a b : A) → rule ts a → rule ts b → a ≡ b
  pub some : (ts : List Lexeme) × (a : A) × rule ts a

-- the parser reads the rule, on at most so many lexemes; a second rule has all phrases of it
pub record Reads {A : Type 0} (first more : Kinds) (empty : Bool) (n : ℕ) (rule wider : Grammar A)
    (parser : Parser A) : Type 0 where
  pub plain : Plain first more empty rule
  pub widens : (ts : List Lexeme) (a : A) → rule ts a → wider ts a
  pub exact : (ts : List Lexeme) → length ts ≤ n → IsExact rule ts (parser ts)
  pub moves : (t : Lexeme) (ts : List Lexeme) → length ts < n → first (kind_of t) ≡ true
      → length (left (parser (t ∷ ts))) ≤ length ts
