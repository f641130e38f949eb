use Rattle.pj_block.proofs.ColumnLemmas.{HaveKinds-at}
use Rattle.pj_block.proofs.block.Block.kinds.Goals as goal

pub returns-in-At-clause-shape : goal.returns-in-At-clause-shape
returns-in-At-clause-shape c =
    let rows = c.in-At.rows.now in
    rw c.in-At.is
    (HaveKinds-at rows.rows rows.kinds c.in-At.field-1.now c.kinds-in-At.ensures.shape
    (rw c.in-At.is at c.requires))
