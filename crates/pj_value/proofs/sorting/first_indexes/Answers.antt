use Rattle.pj_value.proofs.OrderLemmas.{range-more}
use Rattle.pj_value.proofs.sorting.first_indexes.Goals as goal

pub loop-at-preserved : goal.loop-at-preserved
loop-at-preserved c = rw (range-more, c.in_ok-push.ensures.items, c.loop-at.invariant)
