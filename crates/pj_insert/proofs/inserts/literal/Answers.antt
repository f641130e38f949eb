use Rattle.std.proofs.Common.{arith, refl, true}
use Rattle.pj_lex.specs.declared.token.TokenKind.TheVariants as kinds
use Rattle.pj_value.specs.declared.value.Value.TheVariants as values
use Rattle.pj_grammar.specs.Lexemes.{number_of, is_number}
use Rattle.pj_insert.proofs.PrefixLemmas.{prefix_one, prefix_then, prefix_nothing, prefix_left}
use Rattle.pj_insert.proofs.inserts.literal.Goals as goal

pub returns-in-Some : goal.returns-in-Some
returns-in-Some c =
    let most = c.args.most in
    let first = c.in-Some.ensures in
    prefix_left
    (prefix_then
    (prefix_one most (is_number (λ n. true)) number_of (kinds.Number c.in-Some.number) c.args.bytes.now
    first.0 c.in-Some.behind.now first.1 (omega arith) refl)
    (prefix_nothing most (values.Num c.in-Some.number) c.in-Some.behind.now))
