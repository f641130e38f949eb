-- A body that is read as an INSERT at once is read as this statement.
use Rattle.std.proofs.Common.{◌≡◌, ℕ, ◌≤◌, List, length, ap, arith}
use Rattle.std.specs.List.{AllByRecursion}
use Rattle.std.proofs.lemmas.List.Elements.{All-contains, All-from_recursion}
use Rattle.pj_lex.specs.declared.token.Token.{Token}
use Rattle.pj_grammar.specs.declared.types.Statement.{Statement}
use Rattle.pj_insert.specs.Inserts.{text_size, IsInsert}
use Rattle.pj_legal.specs.Bodies.{text_limit, HasLongText, BodyReads}

-- none of the texts is too long
no_long : (tokens : List Token) → AllByRecursion (λ token. text_size token.kind ≤ text_limit) tokens
    → HasLongText tokens → ⊥
no_long tokens short long =
    let within : text_size long.1.kind ≤ text_limit =
    All-contains (λ (token : Token). text_size token.kind ≤ text_limit) tokens long.1
    (All-from_recursion (λ (token : Token). text_size token.kind ≤ text_limit) tokens short)
    (long.0, long.2, long.3) in
    let size : text_size long.1.kind ≡ length long.4.0 = ap text_size long.4.1 in
    omega (arith, within, size, long.4.2)

-- a body's INSERT is its statement
pub insert_reads : (body : List ℕ) (statement : Statement) → IsInsert text_limit body statement
    → BodyReads body statement
insert_reads body statement is =
    record {
      tokens = is.tokens;
      are = is.are;
      few = λ many. many.1 is.first;
      spelled = is.spelled;
      short = no_long is.tokens is.short;
    }
