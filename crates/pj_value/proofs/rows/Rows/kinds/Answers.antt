use Rattle.pj_value.proofs.FitsLemmas.{Fits-rows_of}
use Rattle.pj_value.proofs.RowsLemmas.{HaveKinds-rows_of}
use Rattle.pj_value.proofs.rows.Rows.kinds.Goals as goal

pub returns-clause-shape : goal.returns-clause-shape
returns-clause-shape c = rw (← c.self.view_is) (HaveKinds-rows_of _ _ _ c.self.invariant)

pub returns-clause-fits : goal.returns-clause-fits
returns-clause-fits c =
    rw (← c.self.view_is)
    (Fits-rows_of c.self.inside.columns.items c.self.inside.len
    (rw c.as_slice.ensures.value at c.columns_fit.ensures))
