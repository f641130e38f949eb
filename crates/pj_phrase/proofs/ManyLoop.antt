-- A loop that reads an item each turn reads what `many_with` reads.
-- What it has so far and the items that are still read make the whole.
use Rattle.std.proofs.Common.{◌≡◌, ℕ, zero, suc, Bool, true, false, List, [], ◌∷◌, ◌++◌, replicate, Ok, Err}
use Rattle.std.proofs.Common.{refl, sym, ap, ◌∙◌, append_assoc, if◌then◌else◌}
use Rattle.std.specs.Prelude.{fold}
use Rattle.std.proofs.lemmas.List.{append-nil}
use Rattle.pj_lex.specs.declared.token.Symbol.TheVariants.{Comma}
use Rattle.pj_grammar.specs.declared.types.Tree.{Tree}
use Rattle.pj_grammar.specs.declared.types.Tree.TheVariants as trees
use Rattle.pj_phrase.specs.declared.tokens.rest.Fault.{Fault}
use Rattle.pj_phrase.specs.declared.tokens.rest.Fault.TheVariants as faults
use Rattle.pj_grammar.specs.Lexemes.{Lexeme, is_symbol}
use Rattle.pj_grammar.specs.grammar.Values.{negated}
use Rattle.pj_grammar.specs.parsing.Parser.{Answer, Parser, after, one_at, begins, many_with}
use Rattle.pj_grammar.specs.parsing.Words.{sign_at, behind_at}
use Rattle.pj_phrase.specs.Given.{Fails}

-- what is made of the items of an answer
abbrev pub going : {A B : Type 0} → (List A → B) → Answer (List A) → Answer B
going make answer = after answer (λ more us. Ok (make more, us))

-- the first item goes into what is made
going-cons : {A B : Type 0} (make next : List A → B) (a : A) (answer : Answer (List A))
    → ((more : List A) → make (a ∷ more) ≡ next more)
    → going make (after answer (λ more us. Ok (a ∷ more, us))) ≡ going next answer
going-cons make next a (Ok x) e = ap (λ b. Ok (b, x.1)) (e x.0)
going-cons make next a (Err rest) e = refl

-- an item is read
pub going-step : {A B : Type 0} (make next : List A → B) (n m : ℕ) (test : Lexeme → Bool) (parser : Parser A)
    (ts us : List Lexeme) (a : A) (whole : Answer B)
    → going make (many_with n test parser ts) ≡ whole → ((more : List A) → make (a ∷ more) ≡ next more)
    → n ≡ suc m → begins test ts ≡ true → parser ts ≡ Ok (a, us)
    → going next (many_with m test parser us) ≡ whole
going-step {A} {B} make next n m test parser ts us a whole so_far e fuel goes read =
    let behind : Answer (List A) = after (many_with m test parser us) (λ more vs. Ok (a ∷ more, vs)) in
    let one : going make (many_with n test parser ts) ≡ going make behind = rw (fuel, goes, read) refl in
    sym (going-cons make next a (many_with m test parser us) e) ∙ sym one ∙ so_far

-- an item is read behind a first parser
pub going-step_behind : {A B : Type 0} (make next : List A → B) (n m : ℕ) (test : Lexeme → Bool)
    (first : Parser (Unit {0})) (parser : Parser A) (ts us vs : List Lexeme) (a : A) (whole : Answer B)
    → going make (many_with n test (behind_at first parser) ts) ≡ whole
    → ((more : List A) → make (a ∷ more) ≡ next more)
    → n ≡ suc m → begins test ts ≡ true → first ts ≡ Ok (tt, us) → parser us ≡ Ok (a, vs)
    → going next (many_with m test (behind_at first parser) vs) ≡ whole
going-step_behind make next n m test first parser ts us vs a whole so_far e fuel goes one two =
    going-step make next n m test (behind_at first parser) ts vs a whole so_far e fuel goes (rw one two)

-- a lexeme that passes the test is read by it
pub begun-fails : {A B : Type 0} (test : Lexeme → Bool) (view : Lexeme → A) (ts : List Lexeme) (fault : Fault)
    (whole : Answer B) → begins test ts ≡ true → Fails fault (one_at test view ts) → Fails fault whole
unfolding one_at begins
begun-fails test view [] fault whole begun fails = absurd cc
begun-fails test view (t ∷ ts) (faults.Stuck rest) whole begun fails =
    absurd (let read = rw begun at fails in cc)
begun-fails test view (t ∷ ts) faults.NoMemory whole begun fails = tt

-- ---- lists

-- an item behind others
append-cons : {A : Type 0} (items : List A) (a : A) (more : List A)
    → items ++ a ∷ more ≡ (items ++ a ∷ []) ++ more
append-cons items a more = sym (append_assoc items (a ∷ []) more)

module _ {A : Type 0} (parser : Parser A) where
  -- the items that a loop has, with those behind commas that are still read
  abbrev pub list_going : List A → ℕ → List Lexeme → Answer (List A)
  list_going items n ts =
      going (λ more. items ++ more) (many_with n (is_symbol Comma) (behind_at (sign_at Comma) parser) ts)

  -- an item behind a comma is read and put behind the others
  pub list-step : (n m : ℕ) (items : List A) (a : A) (ts us vs : List Lexeme) (whole : Answer (List A))
      → list_going items n ts ≡ whole → n ≡ suc m → begins (is_symbol Comma) ts ≡ true
      → sign_at Comma ts ≡ Ok (tt, us) → parser us ≡ Ok (a, vs) → list_going (items ++ a ∷ []) m vs ≡ whole
  list-step n m items a ts us vs whole so_far =
      going-step_behind (λ more. items ++ more) (λ more. (items ++ a ∷ []) ++ more) n m
      (is_symbol Comma) (sign_at Comma) parser ts us vs a whole so_far (append-cons items a)

  -- the item behind a comma can't be read
  pub list-fails : (n m : ℕ) (items : List A) (ts us : List Lexeme) (fault : Fault) (whole : Answer (List A))
      → list_going items n ts ≡ whole → n ≡ suc m → begins (is_symbol Comma) ts ≡ true
      → sign_at Comma ts ≡ Ok (tt, us) → Fails fault (parser us) → Fails fault whole
  list-fails n m items ts us (faults.Stuck rest) whole so_far fuel goes one two =
      let all : list_going items n ts ≡ Err rest = rw (fuel, goes, one, two) refl in sym so_far ∙ all
  list-fails n m items ts us faults.NoMemory whole so_far fuel goes one two = tt

  -- no item is asked for
  pub list-ends : (n : ℕ) (items : List A) (ts : List Lexeme) (whole : Answer (List A))
      → list_going items n ts ≡ whole → n ≡ 0 → whole ≡ Ok (items, ts)
  list-ends n items ts whole so_far none =
      let all : list_going items n ts ≡ Ok (items, ts) =
      rw none (ap (λ (bs : List A). Ok (bs, ts)) (append-nil items)) in
      sym so_far ∙ all

  -- no comma follows
  pub list-stops : (n : ℕ) (items : List A) (ts : List Lexeme) (whole : Answer (List A))
      → list_going items n ts ≡ whole → begins (is_symbol Comma) ts ≡ false → whole ≡ Ok (items, ts)
  list-stops zero items ts whole so_far stops = list-ends zero items ts whole so_far refl
  list-stops (suc n) items ts whole so_far stops =
      let all : list_going items (suc n) ts ≡ Ok (items, ts) =
      rw stops (ap (λ (bs : List A). Ok (bs, ts)) (append-nil items)) in
      sym so_far ∙ all

-- ---- trees

module _ {A B : Type 0} (join : B → A → B) (test : Lexeme → Bool) (parser : Parser A) where
  -- the tree that a loop has, with the items that are still read
  abbrev pub fold_going : B → ℕ → List Lexeme → Answer B
  fold_going tree n ts = going (fold join tree) (many_with n test parser ts)

  fold-steps : (tree next : B) (n m : ℕ) (ts us : List Lexeme) (whole : Answer B)
      → fold_going tree n ts ≡ whole
      → n ≡ suc m → begins test ts ≡ true → (answer : Answer A) → parser ts ≡ answer
      → after answer (λ a vs. Ok (join tree a, vs)) ≡ Ok (next, us) → fold_going next m us ≡ whole
  fold-steps tree next n m ts us whole so_far fuel goes (Ok x) is read =
      let both : ◌≡◌ {A = B × List Lexeme} (join tree x.0, x.1) (next, us) = cc in
      let here : join tree x.0 ≡ next = ap (λ (p : B × List Lexeme). p.0) both in
      let there : x.1 ≡ us = ap (λ (p : B × List Lexeme). p.1) both in
      rw (← here, ← there)
      (going-step (fold join tree) (fold join (join tree x.0)) n m test parser ts x.1 x.0 whole so_far
      (λ more. refl) fuel goes is)
  fold-steps tree next n m ts us whole so_far fuel goes (Err rest) is read = absurd (cc)

  -- an item is read and joined to the tree
  pub fold-step : (tree next : B) (n m : ℕ) (ts us : List Lexeme) (whole : Answer B)
      → fold_going tree n ts ≡ whole
      → n ≡ suc m → begins test ts ≡ true → after (parser ts) (λ a vs. Ok (join tree a, vs)) ≡ Ok (next, us)
      → fold_going next m us ≡ whole
  fold-step tree next n m ts us whole so_far fuel goes read =
      fold-steps tree next n m ts us whole so_far fuel goes (parser ts) refl read

module _ {A B : Type 0} (join : B → A → B) (test : Lexeme → Bool)
    (first : Parser (Unit {0})) (parser : Parser A) where
  -- an item behind a first parser is read and joined to the tree
  pub fold-step_behind : (tree : B) (a : A) (n m : ℕ) (ts us vs : List Lexeme) (whole : Answer B)
      → fold_going join test (behind_at first parser) tree n ts ≡ whole → n ≡ suc m → begins test ts ≡ true
      → first ts ≡ Ok (tt, us) → parser us ≡ Ok (a, vs)
      → fold_going join test (behind_at first parser) (join tree a) m vs ≡ whole
  fold-step_behind tree a n m ts us vs whole so_far =
      going-step_behind (fold join tree) (fold join (join tree a)) n m test first parser ts us vs a whole
      so_far
      (λ more. refl)

-- ---- NOTs

-- one more of the same
pub replicate-cons : (n : ℕ) (more : List (Unit {0}))
    → replicate n tt ++ tt ∷ more ≡ replicate (suc n) tt ++ more
replicate-cons zero more = refl
replicate-cons (suc n) more = ap (λ (us : List (Unit {0})). tt ∷ us) (replicate-cons n more)

-- the NOT that stands last is put before the condition first
negated-cons : (nots : List (Unit {0})) (tree : Tree)
    → negated (tt ∷ nots) tree ≡ negated nots (trees.Not tree)
negated-cons [] tree = refl
negated-cons (not ∷ nots) tree = ap (λ (t : Tree). trees.Not t) (negated-cons nots tree)

-- one of them is put there
pub negated-step : (n m : ℕ) (tree whole : Tree) → negated (replicate n tt) tree ≡ whole → n ≡ suc m
    → negated (replicate m tt) (trees.Not tree) ≡ whole
negated-step n m tree whole so_far turn =
    let one : negated (replicate n tt) tree ≡ negated (tt ∷ replicate m tt) tree = rw turn refl in
    sym (negated-cons (replicate m tt) tree) ∙ sym one ∙ so_far
