use Rattle.std.proofs.Common.{sym}
use Rattle.pj_value.proofs.RowsLemmas.{length-rows_of}
use Rattle.pj_value.proofs.rows.Rows.len.Goals as goal

pub returns : goal.returns
returns c = rw (← c.self.view_is) (sym (length-rows_of _ _))
