use Rattle.std.proofs.Common.{Some, None}
use Rattle.pj_insert.specs.Inserts.{SpellsPrefix}
use Rattle.pj_grammar.specs.grammar.Words.{name, listed}
use Rattle.pj_insert.proofs.PrefixLemmas.{prefix_then, prefix_nothing, prefix_left, prefix_right}
use Rattle.pj_insert.proofs.PrefixLemmas.{parens_prefix}
use Rattle.pj_insert.proofs.inserts.columns.Goals as goal

pub returns-in_default : goal.returns-in_default
returns-in_default c = prefix_right (prefix_nothing 0 None c.args.bytes.now)

pub returns-in-Some-first_right : goal.returns-in-Some-first_right
returns-in-Some-first_right c =
    let inside : SpellsPrefix 0 (listed name) c.in-Some.inside.now c.in-Some-2.names c.in-Some-2.behind.now =
    rw c.in-Some-2.is at c.in_ok-names.ensures in
    prefix_left
    (prefix_then (parens_prefix c.in-Some.ensures inside c.in-Some-first_right.ensures)
    (prefix_nothing 0 (Some c.in-Some-2.names) c.in-Some-first_right.behind.now))
