-- The loop that reads a table's members puts columns and projections apart.
use Rattle.std.proofs.Common.{◌≡◌, ℕ, zero, suc, true, false, List, [], ◌∷◌, ◌++◌, Ok, Err, refl, sym, ap}
use Rattle.std.proofs.Common.{◌∙◌, append_assoc}
use Rattle.std.proofs.lemmas.List.{append-nil}
use Rattle.pj_lex.specs.declared.token.Symbol.TheVariants.{Comma}
use Rattle.pj_grammar.specs.declared.types.TreeColumn.{TreeColumn}
use Rattle.pj_grammar.specs.declared.types.TreeProj.{TreeProj}
use Rattle.pj_phrase.specs.declared.tokens.rest.Fault.{Fault}
use Rattle.pj_phrase.specs.declared.tokens.rest.Fault.TheVariants as faults
use Rattle.pj_grammar.specs.Lexemes.{Lexeme, is_symbol}
use Rattle.pj_grammar.specs.grammar.Tables.{Member, defined, projected, columns_in, projections_in}
use Rattle.pj_grammar.specs.parsing.Parser.{Answer, Parser, after, begins, many_with}
use Rattle.pj_grammar.specs.parsing.Words.{sign_at, behind_at}
use Rattle.pj_grammar.specs.parsing.Tables.{Members, parted}
use Rattle.pj_phrase.specs.Given.{Fails}
use Rattle.pj_phrase.proofs.ManyLoop.{going, going-step_behind}

-- the columns and the projections so far, with those of members that are still read
abbrev parted_behind : List TreeColumn → List TreeProj → List Member → Members
parted_behind columns projections more = (columns ++ columns_in more, projections ++ projections_in more)

-- one member is put
parted_behind-cons : (columns : List TreeColumn) (projections : List TreeProj) (one : Member)
    (more : List Member)
    → parted_behind columns projections (one ∷ more)
    ≡ parted_behind (columns ++ columns_in (one ∷ [])) (projections ++ projections_in (one ∷ [])) more
parted_behind-cons columns projections (defined one) more =
    rw (append_assoc columns (one ∷ []) (columns_in more), append-nil projections) refl
parted_behind-cons columns projections (projected one) more =
    rw (append_assoc projections (one ∷ []) (projections_in more), append-nil columns) refl

-- no member is put
parted_behind-nil : (columns : List TreeColumn) (projections : List TreeProj)
    → parted_behind columns projections [] ≡ (columns, projections)
parted_behind-nil columns projections = rw (append-nil columns, append-nil projections) refl

module _ (parser : Parser Member) where
  -- what a loop has put, with the members behind commas that are still read
  abbrev pub members_going : List TreeColumn → List TreeProj → ℕ → List Lexeme → Answer Members
  members_going columns projections n ts =
      going (parted_behind columns projections)
      (many_with n (is_symbol Comma) (behind_at (sign_at Comma) parser) ts)

  -- a member behind a comma is read and put
  pub members-step : (columns : List TreeColumn) (projections : List TreeProj) (n m : ℕ) (one : Member)
      (ts us vs : List Lexeme) (whole : Answer Members)
      → members_going columns projections n ts ≡ whole → n ≡ suc m → begins (is_symbol Comma) ts ≡ true
      → sign_at Comma ts ≡ Ok (tt, us) → parser us ≡ Ok (one, vs)
      → members_going (columns ++ columns_in (one ∷ [])) (projections ++ projections_in (one ∷ [])) m vs
      ≡ whole
  members-step columns projections n m one ts us vs whole so_far =
      going-step_behind (parted_behind columns projections)
      (parted_behind (columns ++ columns_in (one ∷ [])) (projections ++ projections_in (one ∷ []))) n m
      (is_symbol Comma) (sign_at Comma) parser ts us vs one whole so_far
      (parted_behind-cons columns projections one)

  -- the member behind a comma can't be read
  pub members-fails : (columns : List TreeColumn) (projections : List TreeProj) (n m : ℕ)
      (ts us : List Lexeme) (fault : Fault) (whole : Answer Members)
      → members_going columns projections n ts ≡ whole → n ≡ suc m → begins (is_symbol Comma) ts ≡ true
      → sign_at Comma ts ≡ Ok (tt, us) → Fails fault (parser us) → Fails fault whole
  members-fails columns projections n m ts us (faults.Stuck rest) whole so_far fuel goes one two =
      let all : members_going columns projections n ts ≡ Err rest = rw (fuel, goes, one, two) refl in
      sym so_far ∙ all
  members-fails columns projections n m ts us faults.NoMemory whole so_far fuel goes one two = tt

  -- no member is asked for
  pub members-ends : (columns : List TreeColumn) (projections : List TreeProj) (n : ℕ) (ts : List Lexeme)
      (whole : Answer Members)
      → members_going columns projections n ts ≡ whole → n ≡ 0 → whole ≡ Ok ((columns, projections), ts)
  members-ends columns projections n ts whole so_far none =
      let all : members_going columns projections n ts ≡ Ok ((columns, projections), ts) =
      rw none (ap (λ (x : Members). Ok (x, ts)) (parted_behind-nil columns projections)) in
      sym so_far ∙ all

  -- no comma follows
  pub members-stops : (columns : List TreeColumn) (projections : List TreeProj) (n : ℕ) (ts : List Lexeme)
      (whole : Answer Members)
      → members_going columns projections n ts ≡ whole → begins (is_symbol Comma) ts ≡ false
      → whole ≡ Ok ((columns, projections), ts)
  members-stops columns projections zero ts whole so_far stops =
      members-ends columns projections zero ts whole so_far refl
  members-stops columns projections (suc n) ts whole so_far stops =
      let all : members_going columns projections (suc n) ts ≡ Ok ((columns, projections), ts) =
      rw stops (ap (λ (x : Members). Ok (x, ts)) (parted_behind-nil columns projections)) in
      sym so_far ∙ all

-- ---- behind the members

-- the members as the rule has them: a column, and more members
abbrev Listed : Type 0
Listed = TreeColumn × List Member

-- what is read next, with the members put apart behind it or before it
parted-then : (first : TreeColumn) (more : List Member) (next : Answer (Unit {0}))
    → after {A = Listed} {B = Members}
    (after {A = Unit {0}} {B = Listed} next (λ _ vs. Ok ((first, more), vs)))
    (λ list vs. Ok (parted list.0 list.1, vs))
    ≡ after {A = Unit {0}} {B = Members} next (λ _ vs. Ok (parted first more, vs))
parted-then first more (Ok x) = refl
parted-then first more (Err rest) = refl

-- the members that were read, and what is read next
pub members-then : (first : TreeColumn) (next : Parser (Unit {0})) (answer : Answer (List Member))
    (both : Members) (us : List Lexeme)
    → after {A = List Member} {B = Members} answer (λ more vs. Ok (parted first more, vs)) ≡ Ok (both, us)
    → after {A = Listed} {B = Members}
    (after {A = List Member} {B = Listed} answer
    (λ more ts. after {A = Unit {0}} {B = Listed} (next ts) (λ _ vs. Ok ((first, more), vs))))
    (λ list vs. Ok (parted list.0 list.1, vs))
    ≡ after {A = Unit {0}} {B = Members} (next us) (λ _ vs. Ok (both, vs))
members-then first next (Ok x) both us read =
    let same : ◌≡◌ {A = Members × List Lexeme} (parted first x.0, x.1) (both, us) = cc in
    let here : parted first x.0 ≡ both = ap (λ (p : Members × List Lexeme). p.0) same in
    let there : x.1 ≡ us = ap (λ (p : Members × List Lexeme). p.1) same in
    rw (← here, ← there) (parted-then first x.0 (next x.1))
members-then first next (Err rest) both us read = absurd cc

-- and it can be read
pub members-read : (first : TreeColumn) (next : Parser (Unit {0})) (answer : Answer (List Member))
    (both : Members) (us vs : List Lexeme)
    → after {A = List Member} {B = Members} answer (λ more vs. Ok (parted first more, vs)) ≡ Ok (both, us)
    → next us ≡ Ok (tt, vs)
    → after {A = Listed} {B = Members}
    (after {A = List Member} {B = Listed} answer
    (λ more ts. after {A = Unit {0}} {B = Listed} (next ts) (λ _ ws. Ok ((first, more), ws))))
    (λ list ws. Ok (parted list.0 list.1, ws))
    ≡ Ok (both, vs)
members-read first next answer both us vs read one =
    members-then first next answer both us read
    ∙ ap (λ (a : Answer (Unit {0})). after {A = Unit {0}} {B = Members} a (λ _ ws. Ok (both, ws))) one

-- what is not read next fails the whole
pub fails-then : {A : Type 0} (fault : Fault) (next : Answer (Unit {0})) (value : A) (whole : Answer A)
    → whole ≡ after next (λ _ vs. Ok (value, vs)) → Fails fault next → Fails fault whole
fails-then (faults.Stuck rest) next value whole same fails = rw (same, fails) refl
fails-then faults.NoMemory next value whole same fails = tt
