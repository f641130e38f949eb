use Rattle.std.proofs.Common.{refl, true}
use Rattle.pj_lex.specs.declared.token.TokenKind.TheVariants as kinds
use Rattle.pj_lex.specs.FirstToken.{HasFirst}
use Rattle.pj_value.specs.declared.value.Value.TheVariants as values
use Rattle.pj_grammar.specs.Lexemes.{bytes_of, is_text}
use Rattle.pj_insert.proofs.PrefixLemmas.{prefix_one, prefix_then, prefix_nothing, prefix_right}
use Rattle.pj_insert.proofs.inserts.text.Goals as goal

pub returns-in-Some : goal.returns-in-Some
returns-in-Some c =
    let most = c.args.most in
    let first : HasFirst (kinds.Text c.in-Some.text) c.args.bytes.now c.in-Some.behind.now =
    rw c.in-Some.is at c.in_ok-behind.ensures in
    prefix_right
    (prefix_then
    (prefix_one most (is_text (λ bytes. true)) bytes_of (kinds.Text c.in-Some.text) c.args.bytes.now
    first.0 c.in-Some.behind.now first.1
    (rw (← c.as_slice.ensures.value) c.if-as_slice-most.true) refl)
    (prefix_nothing most (values.Text c.in-Some.text) c.in-Some.behind.now))
