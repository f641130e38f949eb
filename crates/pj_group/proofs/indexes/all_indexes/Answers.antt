use Rattle.pj_block.proofs.IndexLemmas.{range_more}
use Rattle.pj_group.proofs.indexes.all_indexes.Goals as goal

pub loop-at-preserved : goal.loop-at-preserved
loop-at-preserved c = rw (range_more, c.in_ok-push.ensures.items, c.loop-at.invariant)
