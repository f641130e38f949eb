use Rattle.pj_grammar.proofs.RowLayoutLemmas.{AreEnds-push, begun-push}
use Rattle.pj_grammar.proofs.value_rows.RowsSoFar.push.Goals as goal

pub invariant_of-self-2 : goal.invariant_of-self-2
invariant_of-self-2 c =
    rw c.in_ok-push.ensures.items
    (AreEnds-push c.self.inside.values.items c.args.value c.self.inside.ends.items c.self.invariant)

pub returns : goal.returns
returns c =
    rw (c.in_ok-push.ensures.items, ← c.self.view_is)
    (begun-push c.self.inside.values.items c.args.value c.self.inside.ends.items c.self.invariant)
