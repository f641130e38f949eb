use Rattle.std.proofs.Common.{sym}
use Rattle.pj_grammar.proofs.RowLayoutLemmas.{length-rows_from}
use Rattle.pj_grammar.proofs.value_rows.ValueRows.len.Goals as goal

pub returns : goal.returns
returns c = rw (c.as_slice.ensures.value, ← c.self.view_is) (sym (length-rows_from _ 0 _))
