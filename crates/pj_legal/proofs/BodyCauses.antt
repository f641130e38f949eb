-- A body is read or can't be read, and binds or is refused.
use Rattle.std.proofs.Common.{◌≡◌, ℕ, ◌<◌, zero, suc, true, List, [], ◌∷◌, length}
use Rattle.std.proofs.Common.{refl, sym, ap, subst, inl, inr, arith}
use Rattle.std.specs.Prelude.{◌⊎◌, drop, codes}
use Rattle.std.specs.List.{Any}
use Rattle.std.proofs.lemmas.Bool.{cases_lt, cases_Bool, both_ways}
use Rattle.pj_lex.specs.declared.token.TokenKind.{TokenKind}
use Rattle.pj_lex.specs.declared.token.TokenKind.TheVariants as token_kinds
use Rattle.pj_lex.specs.declared.token.Token.{Token}
use Rattle.pj_lex.specs.Tokens.{AreTokens}
use Rattle.pj_lex.proofs.BodyLaws.{tokens_or_break}
use Rattle.pj_grammar.specs.declared.types.Statement.{Statement}
use Rattle.pj_grammar.specs.Lexemes.{Lexeme, word, number, text, symbol, lexemes, spells}
use Rattle.pj_grammar.specs.grammar.Statements.{IsStatement}
use Rattle.pj_grammar.specs.SyntaxErrors.{tokens_limit, BeginsInsert, HasTooMany, offset_of}
use Rattle.pj_grammar.proofs.WholeSentence.{statement_or_error}
use Rattle.pj_expr.specs.declared.table.Table.{Table}
use Rattle.pj_bind.specs.declared.types.Bound.{Bound}
use Rattle.pj_bind.specs.declared.types.LimitName.TheVariants.{Tokens, Text}
use Rattle.pj_bind.specs.declared.types.Refusal.{Refusal}
use Rattle.pj_bind.specs.declared.types.Refusal.TheVariants.{Syntax, Limit}
use Rattle.pj_bind.proofs.BindLaws.{bound_or_refused}
use Rattle.pj_legal.specs.Bodies.{text_limit, IsLongText, HasLongText, BodyReads, IsUnreadable}
use Rattle.pj_legal.specs.Bodies.{BodyBinds, IsBodyRefusal}

-- it holds or doesn't
abbrev Decided : Type 0 → Type 0
Decided P = P ⊎ (P → ⊥)

-- ---- long texts

module _ {X : Type 0} (P : X → Type 0) where
  any_cons : (x : X) (xs : List X) → (P x → ⊥) → (Any P xs → ⊥) → Any P (x ∷ xs) → ⊥
  any_cons x xs not_first none (zero, y, within, at, holds) = not_first (subst P (sym at) holds)
  any_cons x xs not_first none (suc k, y, within, at, holds) = none (k, y, omega (arith, within), at, holds)

  -- one of the list, or none
  any_or_none : ((x : X) → Decided (P x)) → (xs : List X) → Decided (Any P xs)
  any_or_none decide [] = inr (λ a. absurd (omega (arith, a.2)))
  any_or_none decide (x ∷ xs) =
      elim (decide x) [
        | inl holds ↦ inl (0, x, omega arith, refl, holds)
        | inr not_first ↦
            elim (any_or_none decide xs) [
              | inl (k, y, within, at, holds) ↦ inl (suc k, y, omega (arith, within), at, holds)
              | inr none ↦ inr (any_cons x xs not_first none)
            ]
      ]

-- a token is a long text or isn't
long_or_not : (kind : TokenKind)
    → Decided ((text : List ℕ) × (kind ≡ token_kinds.Text text) × (text_limit < length text))
long_or_not token_kinds.Word = inr (λ l. let e = l.1 in cc)
long_or_not (token_kinds.Number n) = inr (λ l. let e = l.1 in cc)
long_or_not (token_kinds.Symbol s) = inr (λ l. let e = l.1 in cc)
long_or_not (token_kinds.Text t) =
    elim (cases_lt text_limit (length t)) [
      | inl long ↦ inl (t, refl, long)
      | inr short ↦ inr (λ l. let e = l.1 in let same : l.0 ≡ t = cc in
          omega (arith, ap length same, l.2, short))
    ]

has_long_or_not : (tokens : List Token) → Decided (HasLongText tokens)
has_long_or_not tokens = any_or_none IsLongText (λ token. long_or_not token.kind) tokens

-- ---- too many tokens

begins_or_not : (ts : List Lexeme) → Decided (BeginsInsert ts)
begins_or_not [] = inr (λ b. let e = b.2 in cc)
begins_or_not (word bytes ∷ more) =
    elim (cases_Bool (spells (codes "INSERT") bytes)) [
      | inl is ↦ inl (bytes, more, refl, is)
      | inr other ↦ inr (λ b. let e = b.2 in let same : b.0 ≡ bytes = cc in
          both_ways (spells (codes "INSERT") bytes) other
          (subst (λ (x : List ℕ). spells (codes "INSERT") x ≡ true) same b.3))
    ]
begins_or_not (number n ∷ more) = inr (λ b. let e = b.2 in cc)
begins_or_not (text t ∷ more) = inr (λ b. let e = b.2 in cc)
begins_or_not (symbol s ∷ more) = inr (λ b. let e = b.2 in cc)

many_or_not : (ts : List Lexeme) → Decided (HasTooMany ts)
many_or_not ts =
    elim (cases_lt tokens_limit (length ts)) [
      | inl many ↦
          elim (begins_or_not ts) [
            | inl insert ↦ inr (λ m. m.1 insert)
            | inr none ↦ inl (many, none)
          ]
      | inr few ↦ inr (λ m. absurd (omega (arith, m.0, few)))
    ]

-- ---- bodies

-- the body is read, or can't be
abbrev ReadOrNot : List ℕ → Type 0
ReadOrNot body =
    ((statement : Statement) × BodyReads body statement) ⊎ ((refusal : Refusal) × IsUnreadable body refusal)

-- a line of tokens that are not too many
read_spelled : (body : List ℕ) (tokens : List Token) (statement : Statement) → AreTokens body tokens
    → (HasTooMany (lexemes body tokens) → ⊥) → IsStatement (lexemes body tokens) statement → ReadOrNot body
read_spelled body tokens statement are few spelled =
    elim (has_long_or_not tokens) [
      | inl long ↦ inr (
        Limit Text,
        record {
          tokens = tokens;
          are = are;
          few = few;
          statement = statement;
          spelled = spelled;
          long = long;
        },
      )
      | inr short ↦ inl (
        statement,
        record { tokens = tokens; are = are; few = few; spelled = spelled; short = short },
      )
    ]

-- tokens that are not too many
read_few : (body : List ℕ) (tokens : List Token) → AreTokens body tokens
    → (HasTooMany (lexemes body tokens) → ⊥) → ReadOrNot body
read_few body tokens are few =
    elim (statement_or_error (lexemes body tokens)) [
      | inl (statement, spelled) ↦ read_spelled body tokens statement are few spelled
      | inr (count, error) ↦ inr (
        Syntax (offset_of body (drop count tokens)),
        inr (record { tokens = tokens; are = are; few = few; error = (count, error, refl) }),
      )
    ]

-- a body is read, or can't be
pub body_read_or_not : (body : List ℕ)
    → ((statement : Statement) × BodyReads body statement) ⊎ ((refusal : Refusal) × IsUnreadable body refusal)
body_read_or_not body =
    elim (tokens_or_break body) [
      | inl (tokens, are) ↦
          elim (many_or_not (lexemes body tokens)) [
            | inl many ↦ inr (Limit Tokens, (tokens, are, many))
            | inr few ↦ read_few body tokens are few
          ]
      | inr (at, breaks) ↦ inr (Syntax at, inl breaks)
    ]

-- and binds, or is refused
pub body_bound_or_refused : (tables : List Table) (body : List ℕ)
    → ((bound : Bound) × BodyBinds tables body bound)
    ⊎ ((refusal : Refusal) × IsBodyRefusal tables body refusal)
body_bound_or_refused tables body =
    elim (body_read_or_not body) [
      | inl (statement, reads) ↦
          elim (bound_or_refused tables statement) [
            | inl (bound, built, binds) ↦ inl (bound, (statement, reads, built, binds))
            | inr (refusal, is) ↦ inr (refusal, inr (statement, reads, is))
          ]
      | inr (refusal, is) ↦ inr (refusal, inl is)
    ]
