use Rattle.std.proofs.Common.{ap, ◌∙◌}
use Rattle.pj_grammar.specs.RowLayout.{WithBegun}
use Rattle.pj_insert.specs.Inserts.{SpellsPrefix}
use Rattle.pj_grammar.specs.grammar.Statements.{literal}
use Rattle.pj_insert.proofs.PrefixLemmas.{listed_more}
use Rattle.pj_insert.proofs.inserts.literals.Goals as goal

pub values-preserved : goal.values-preserved
values-preserved c =
    let one : SpellsPrefix c.args.most literal c.in-Some-first_comma.behind.now c.in-Some-2.one
    c.in-Some-2.behind.now =
    rw c.in-Some-2.is at c.in_ok-one.ensures in
    record {
      read =
          rw (ap (λ (r : WithBegun). r.begun) c.in_ok-push-2.ensures)
          (listed_more c.values.invariant.read c.in-Some-first_comma.ensures one);
      whole = ap (λ (r : WithBegun). r.whole) c.in_ok-push-2.ensures ∙ c.values.invariant.whole;
    }
