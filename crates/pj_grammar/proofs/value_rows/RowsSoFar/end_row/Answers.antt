use Rattle.pj_grammar.proofs.RowLayoutLemmas.{AreEnds-end, whole-end}
use Rattle.pj_grammar.proofs.value_rows.RowsSoFar.end_row.Goals as goal

pub invariant_of-self-2 : goal.invariant_of-self-2
invariant_of-self-2 c =
    rw (c.in_ok-push.ensures.items, c.as_slice.ensures.value)
    (AreEnds-end 0 c.self.inside.ends.items _ c.self.invariant)

pub returns : goal.returns
returns c =
    rw (c.in_ok-push.ensures.items, c.as_slice.ensures.value, ← c.self.view_is)
    (whole-end c.self.inside.values.items c.self.inside.ends.items)
