use Rattle.std.proofs.Common.{length, ap, arith}
use Rattle.pj_grammar.proofs.RowLayoutLemmas.{length-rows_from}
use Rattle.pj_grammar.proofs.value_rows.ValueRows.row.Goals as goal

pub row_of-requires-clause-at : goal.row_of-requires-clause-at
row_of-requires-clause-at c =
    rw c.as_slice-2.ensures.value
    (omega (
      arith,
      ap length c.self.view_is,
      length-rows_from c.self.inside.values.items 0 c.self.inside.ends.items,
      c.requires,
    ))
