-- What a body means, it means in one way. The laws of tokens and of the grammar below are hypotheses here.
use Rattle.std.proofs.Common.{◌≡◌, ℕ, List, refl, sym, ap, ◌∙◌, subst, inl, inr}
use Rattle.std.specs.Prelude.{drop}
use Rattle.pj_lex.specs.declared.token.Token.{Token}
use Rattle.pj_lex.specs.Tokens.{AreTokens}
use Rattle.pj_grammar.specs.declared.types.Statement.{Statement}
use Rattle.pj_grammar.specs.Lexemes.{lexemes}
use Rattle.pj_grammar.specs.grammar.Statements.{IsStatement}
use Rattle.pj_grammar.specs.SyntaxErrors.{HasTooMany, offset_of, IsSyntaxError}
use Rattle.pj_expr.specs.declared.table.Table.{Table}
use Rattle.pj_bind.specs.declared.types.Bound.{Bound}
use Rattle.pj_bind.specs.declared.types.LimitName.TheVariants.{Tokens, Text}
use Rattle.pj_bind.specs.declared.types.Refusal.{Refusal}
use Rattle.pj_bind.specs.declared.types.Refusal.TheVariants.{Syntax, Limit}
use Rattle.pj_bind.specs.Binding.{IsBound, IsRefusal}
use Rattle.pj_bind.proofs.BindLaws.{one_refusal, one_bound, no_bound_is_refused}
use Rattle.pj_legal.specs.Bodies.{HasLongText, BodyReads, IsOffGrammar, HasManyTokens, HasLongStatement}
use Rattle.pj_legal.specs.Bodies.{IsUnreadable, BodyBinds, IsBodyRefusal}
use Rattle.pj_lex.proofs.BodyLaws.{one_list, no_tokens_with_a_break, one_break}
use Rattle.pj_grammar.proofs.WholeSentence.{one_statement, one_error}
use Rattle.pj_legal.specs.Laws.{HasOneMeaning, OneBodyReading, NoBoundBodyIsRefused, OneBodyBound}
use Rattle.pj_legal.specs.Laws.{OneBodyRefusal}

module _ (laws : HasOneMeaning) (body : List ℕ) where
  -- what holds of a body's tokens holds of each list of its tokens
  moved : (P : List Token → Type 0) (xs ys : List Token) → AreTokens body xs → AreTokens body ys → P xs → P ys
  moved P xs ys are too p = subst P (laws.one_list body xs ys are too) p

  -- one statement at most
  pub BodyReads-one : (a b : Statement) → BodyReads body a → BodyReads body b → a ≡ b
  BodyReads-one a b r s =
      laws.one_statement (lexemes body s.tokens) a b
      (moved (λ (ts : List Token). IsStatement (lexemes body ts) a) r.tokens s.tokens r.are s.are r.spelled)
      s.spelled

  -- a body off the grammar spells no statement
  no_statement_read : (at : ℕ) (tokens : List Token) (statement : Statement) → IsOffGrammar body at
      → AreTokens body tokens → IsStatement (lexemes body tokens) statement → ⊥
  no_statement_read at tokens statement off are spelled =
      off.error.1.no_statement statement
      (moved (λ (ts : List Token). IsStatement (lexemes body ts) statement) tokens off.tokens are off.are
      spelled)

  -- a body with too many tokens has not so few
  not_few : (tokens : List Token) → HasManyTokens body → AreTokens body tokens
      → (HasTooMany (lexemes body tokens) → ⊥) → ⊥
  not_few tokens (others, are, many) too few =
      few (moved (λ (ts : List Token). HasTooMany (lexemes body ts)) others tokens are too many)

  -- two errors off the grammar are one
  one_off : (a b : ℕ) → IsOffGrammar body a → IsOffGrammar body b → a ≡ b
  one_off a b r s =
      let (m, first, at) =
      moved (λ (ts : List Token). IsSyntaxError body ts a) r.tokens s.tokens r.are s.are r.error in
      let (n, other, there) = s.error in
      let count : m ≡ n = laws.one_error (lexemes body s.tokens) m n first other in
      at ∙ ap (λ (k : ℕ). offset_of body (drop k s.tokens)) count ∙ sym there

  -- a body that is read has no cause against it
  pub BodyReads-readable : (statement : Statement) (refusal : Refusal) → BodyReads body statement
      → IsUnreadable body refusal → ⊥
  BodyReads-readable statement (Syntax at) r (inl breaks) =
      laws.no_tokens_with_a_break body r.tokens at r.are breaks
  BodyReads-readable statement (Syntax at) r (inr off) = no_statement_read at r.tokens statement off r.are
      r.spelled
  BodyReads-readable statement (Limit Tokens) r many = not_few r.tokens many r.are r.few
  BodyReads-readable statement (Limit Text) r long =
      r.short (moved HasLongText long.tokens r.tokens long.are r.are long.long)
  BodyReads-readable statement refusal r is = is

  -- two places of syntax errors are one
  one_syntax : (a b : ℕ) → IsUnreadable body (Syntax a) → IsUnreadable body (Syntax b) → a ≡ b
  one_syntax a b (inl r) (inl s) = laws.one_break body a b r s
  one_syntax a b (inl r) (inr s) = absurd (laws.no_tokens_with_a_break body s.tokens a s.are r)
  one_syntax a b (inr r) (inl s) = absurd (laws.no_tokens_with_a_break body r.tokens b r.are s)
  one_syntax a b (inr r) (inr s) = one_off a b r s

  -- a body with a syntax error has not too many tokens
  syntax_few : (at : ℕ) → IsUnreadable body (Syntax at) → HasManyTokens body → ⊥
  syntax_few at (inl breaks) many = laws.no_tokens_with_a_break body many.0 at many.1 breaks
  syntax_few at (inr off) many = not_few off.tokens many off.are off.few

  -- and spells no statement
  syntax_short : (at : ℕ) → IsUnreadable body (Syntax at) → HasLongStatement body → ⊥
  syntax_short at (inl breaks) long = laws.no_tokens_with_a_break body long.tokens at long.are breaks
  syntax_short at (inr off) long = no_statement_read at long.tokens long.statement off long.are long.spelled

  -- a body can't be read for one first cause
  pub IsUnreadable-one : (a b : Refusal) → IsUnreadable body a → IsUnreadable body b → a ≡ b
  IsUnreadable-one (Syntax at) (Syntax there) r s = ap Syntax (one_syntax at there r s)
  IsUnreadable-one (Syntax at) (Limit Tokens) r s = absurd (syntax_few at r s)
  IsUnreadable-one (Syntax at) (Limit Text) r s = absurd (syntax_short at r s)
  IsUnreadable-one (Limit Tokens) (Syntax at) r s = absurd (syntax_few at s r)
  IsUnreadable-one (Limit Tokens) (Limit Tokens) r s = refl
  IsUnreadable-one (Limit Tokens) (Limit Text) r s = absurd (not_few s.tokens r s.are s.few)
  IsUnreadable-one (Limit Text) (Syntax at) r s = absurd (syntax_short at s r)
  IsUnreadable-one (Limit Text) (Limit Tokens) r s = absurd (not_few r.tokens s r.are r.few)
  IsUnreadable-one (Limit Text) (Limit Text) r s = refl
  IsUnreadable-one a (Syntax at) r s = absurd r
  IsUnreadable-one a (Limit Tokens) r s = absurd r
  IsUnreadable-one a (Limit Text) r s = absurd r
  IsUnreadable-one a b r s = absurd s

  -- a refusal of one of the body's statements is one of the other's
  IsRefusal-read : (tables : List Table) (a b : Statement) (refusal : Refusal) → BodyReads body a
      → BodyReads body b → IsRefusal tables a refusal → IsRefusal tables b refusal
  IsRefusal-read tables a b refusal r s is =
      subst (λ (x : Statement). IsRefusal tables x refusal) (BodyReads-one a b r s) is

  -- a body that binds isn't refused
  pub IsBodyRefusal-bound : (tables : List Table) (bound : Bound) (refusal : Refusal)
      → BodyBinds tables body bound → IsBodyRefusal tables body refusal → ⊥
  IsBodyRefusal-bound tables bound refusal (statement, reads, built, binds) (inl unreadable) =
      BodyReads-readable statement refusal reads unreadable
  IsBodyRefusal-bound tables bound refusal (statement, reads, built, binds) (inr (other, too, is)) =
      no_bound_is_refused tables statement bound refusal built binds
      (IsRefusal-read tables other statement refusal too reads is)

  -- a body binds in one way
  pub BodyBinds-one : (tables : List Table) (a b : Bound) → BodyBinds tables body a → BodyBinds tables body b
      → a ≡ b
  BodyBinds-one tables a b (statement, reads, built, binds) (other, too, also, again) =
      one_bound tables statement a b binds
      (subst (λ (x : Statement). IsBound tables x b) (BodyReads-one other statement too reads) again)

  -- a body is refused in one way
  pub IsBodyRefusal-one : (tables : List Table) (a b : Refusal)
      → IsBodyRefusal tables body a → IsBodyRefusal tables body b → a ≡ b
  IsBodyRefusal-one tables a b (inl r) (inl s) = IsUnreadable-one a b r s
  IsBodyRefusal-one tables a b (inl r) (inr (statement, reads, refused)) =
      absurd (BodyReads-readable statement a reads r)
  IsBodyRefusal-one tables a b (inr (statement, reads, refused)) (inl s) =
      absurd (BodyReads-readable statement b reads s)
  IsBodyRefusal-one tables a b (inr (statement, reads, refused)) (inr (other, too, again)) =
      one_refusal tables statement a b refused
      (IsRefusal-read tables other statement b too reads again)

-- so a body is read as one statement at most
pub OneBodyReading-from : HasOneMeaning → OneBodyReading
OneBodyReading-from laws = λ body. BodyReads-one laws body

-- isn't both bound and refused
pub NoBoundBodyIsRefused-from : HasOneMeaning → NoBoundBodyIsRefused
NoBoundBodyIsRefused-from laws = λ tables body. IsBodyRefusal-bound laws body tables

-- binds in one way
pub OneBodyBound-from : HasOneMeaning → OneBodyBound
OneBodyBound-from laws = λ tables body. BodyBinds-one laws body tables

-- and is refused in one way
pub OneBodyRefusal-from : HasOneMeaning → OneBodyRefusal
OneBodyRefusal-from laws = λ tables body. IsBodyRefusal-one laws body tables

-- the laws of tokens and of the grammar hold
pub one_meaning : HasOneMeaning
one_meaning = record {
  one_list = one_list;
  no_tokens_with_a_break = no_tokens_with_a_break;
  one_break = one_break;
  one_statement = one_statement;
  one_error = one_error;
}
