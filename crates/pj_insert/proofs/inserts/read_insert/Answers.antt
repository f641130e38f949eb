use Rattle.pj_insert.specs.Inserts.{SpellsPrefix}
use Rattle.pj_grammar.specs.grammar.Ebnf.{optional}
use Rattle.pj_grammar.specs.grammar.Words.{name, listed, in_parens}
use Rattle.pj_grammar.specs.grammar.Statements.{row}
use Rattle.pj_insert.proofs.InsertLines.{insert_prefix, whole_insert}
use Rattle.pj_insert.proofs.inserts.read_insert.Goals as goal

pub returns : goal.returns
returns c =
    let named : SpellsPrefix 0 (optional (in_parens (listed name))) c.in-Some.behind.now c.in-Some-2.columns
    c.in-Some-2.behind.now =
    rw c.in-Some-2.is at c.in_ok-columns.ensures in
    let rows : SpellsPrefix c.args.most (listed row) c.in-Some-keyword.behind.now c.in-Some-3.rows
    c.in-Some-3.behind.now =
    rw c.in-Some-3.is at c.in_ok-rows.ensures in
    let insert =
    insert_prefix c.args.most c.args.body.now c.in-Some.behind.now c.in-Some-2.behind.now
    c.in-Some-keyword.behind.now c.in-Some-3.behind.now c.in-Some.table.now c.in-Some-2.columns
    c.in-Some-3.rows c.in-Some.ensures named c.in-Some-keyword.ensures rows in
    rw c.in_ok-table.ensures
    (whole_insert c.args.most c.args.body.now c.in-Some-3.behind c.first_semicolon.result _ insert
    c.first_semicolon.ensures
    (rw c.unwrap_or.ensures at c.only_blanks.ensures.0 c.if-not-only_blanks.false))
