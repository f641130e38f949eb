use Rattle.pj_lex.specs.declared.token.Symbol.TheVariants.{Right}
use Rattle.pj_lex.specs.declared.token.TokenKind.TheVariants as kinds
use Rattle.pj_insert.specs.Inserts.{SpellsPrefix}
use Rattle.pj_grammar.specs.grammar.Words.{listed}
use Rattle.pj_grammar.specs.grammar.Statements.{literal}
use Rattle.pj_insert.proofs.PrefixLemmas.{if_found, parens_prefix}
use Rattle.pj_insert.proofs.inserts.row.Goals as goal

pub returns-clause-read : goal.returns-clause-read
returns-clause-read c =
    let inside : SpellsPrefix c.args.most (listed literal) c.in-Some.inside.now c.literals.new.rows.begun
    c.in-Some-2.behind.now =
    rw c.in-Some-2.is at c.in_ok-behind.ensures.read in
    if_found (kinds.Symbol Right) c.in-Some-2.behind.now (λ rest r. parens_prefix c.in-Some.ensures inside r)
    c.first_right.result c.first_right.ensures
