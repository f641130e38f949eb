-- Rules whose phrases are one lexeme, and what stands first in two rules behind each other.
use Rattle.std.proofs.Common.{◌≡◌, ℕ, suc, ◌≤◌, Bool, true, false, List, [], ◌∷◌, ◌++◌}
use Rattle.std.proofs.Common.{length, Ok, Err, ap, ◌∙◌, inl, inr, arith}
use Rattle.std.proofs.lemmas.List.{append-nil}
use Rattle.pj_grammar.specs.Lexemes.{Lexeme}
use Rattle.pj_grammar.specs.grammar.Ebnf.{Grammar, One, Nothing, Then, ◌>>=◌, ◌or◌}
use Rattle.pj_grammar.specs.parsing.Parser.{Answer, Parser}
use Rattle.pj_grammar.proofs.kinds.Sets.{Kinds, kind_of}
use Rattle.pj_grammar.proofs.reads.Reads.{IsExact, left, Plain, Reads}

-- each phrase of the rule is one lexeme
abbrev pub Single : {A : Type 0} → Grammar A → Type 0
Single {A} rule = (ts : List Lexeme) (a : A) → rule ts a → (t : Lexeme) × (ts ≡ t ∷ [])

pub one_single : {A : Type 0} (test : Lexeme → Bool) (view : Lexeme → A) → Single (One test view)
one_single test view ts a w = (w.lexeme, w.only)

pub or_single : {A : Type 0} {G H : Grammar A} → Single G → Single H → Single (G or H)
or_single g h ts a (inl w) = g ts a w
or_single g h ts a (inr w) = h ts a w

pub end_single : {A B : Type 0} {G : Grammar A} (f : A → B) → Single G → Single (G >>= λ a. Nothing (f a))
end_single f g ts b w =
    let one = g w.front w.found w.one in (
      one.0,
      w.all ∙ ap (λ (xs : List Lexeme). xs ++ w.back) one.1
          ∙ ap (λ (xs : List Lexeme). one.0 ∷ xs) w.other.empty,
    )

-- one lexeme isn't two
not_two : (t next u : Lexeme) (read more : List Lexeme) → t ∷ [] ≡ read → read ++ next ∷ more ≡ u ∷ [] → ⊥
not_two t next u [] more e h = absurd cc
not_two t next u (s ∷ []) more e h = absurd cc
not_two t next u (s ∷ s' ∷ read) more e h = absurd cc

-- a lexeme that begins a phrase of such a rule is one
pub single_word : {A : Type 0} {F M : Kinds} {n : ℕ} {G W : Grammar A} {p : Parser A}
    → Reads F M false (suc n) G W p → Single G
    → (t : Lexeme) → F (kind_of t) ≡ true → (a : A) × G (t ∷ []) a
single_word {A} {G = G} {p = p} r single t in_first =
    go (p (t ∷ [])) (r.exact (t ∷ []) (omega arith)) (r.moves t [] (omega arith) in_first)
  where
    go : (answer : Answer A) → IsExact G (t ∷ []) answer → length (left answer) ≤ 0 → (a : A) × G (t ∷ []) a
    go (Ok (a, [])) f none =
        (a, rw (let all = f.all in let e : t ∷ [] ≡ f.read = all ∙ append-nil f.read in e) f.phrase)
    go (Ok (a, u ∷ us)) f none = absurd (omega arith)
    go (Err []) s none =
        let whole : t ∷ [] ≡ s.read = s.all ∙ append-nil s.read in
        let longer = single (s.read ++ s.next ∷ s.more) s.value s.begins in
        absurd (not_two t s.next longer.0 s.read s.more whole longer.1)
    go (Err (u ∷ us)) s none = absurd (omega arith)

-- two lexemes in front, of these kinds
pub record Heads (F F' : Kinds) (ts : List Lexeme) : Type 0 where
  pub one : Lexeme
  pub next : Lexeme
  pub more : List Lexeme
  pub all : ts ≡ one ∷ next ∷ more
  pub first : F (kind_of one) ≡ true
  pub second : F' (kind_of next) ≡ true

-- behind a phrase of one lexeme stands what begins the second rule
pub heads_then : {A B : Type 0} {F M F' M' : Kinds} {G : Grammar A} {H : A → Grammar B} → Single G
    → Plain F M false G
    → ((a : A) → Plain F' M' false (H a)) → (ts : List Lexeme) (b : B) → Then G H ts b → Heads F F' ts
heads_then {B = B} {F = F} {F' = F'} {G = G} {H = H} single plain plains ts b w =
    let one = single w.front w.found w.one in
    go one.0 w.back (w.all ∙ ap (λ (xs : List Lexeme). xs ++ w.back) one.1) (rw one.1 at w.one) w.other
  where
    go : (t : Lexeme) (back : List Lexeme) → ts ≡ t ∷ back → G (t ∷ []) w.found → H w.found back b
        → Heads F F' ts
    go t [] all phrase behind = absurd (let empty = (plains w.found).may_be_empty b behind in cc)
    go t (u ∷ v) all phrase behind = record {
      one = t;
      next = u;
      more = v;
      all = all;
      first = plain.begins t [] w.found phrase;
      second = (plains w.found).begins u v b behind;
    }
