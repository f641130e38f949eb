use Rattle.std.proofs.Common.{sym, ◌∙◌, arith}
use Rattle.pj_lex.specs.declared.token.TokenKind.TheVariants as kinds
use Rattle.pj_grammar.specs.Lexemes.{bytes_of, is_word, may_name}
use Rattle.pj_insert.proofs.PrefixLemmas.{prefix_one}
use Rattle.pj_insert.proofs.inserts.name.Goals as goal

pub returns-in-Some : goal.returns-in-Some
returns-in-Some c =
    prefix_one 0 (is_word may_name) bytes_of kinds.Word c.args.bytes.now c.in-Some.word.now
    c.in-Some.behind.now c.in-Some.ensures (omega arith) (sym c.may_name.ensures ∙ c.if-may_name.true)
