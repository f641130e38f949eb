use Rattle.std.proofs.Common.{◌≡◌, length}
use Rattle.pj_value.specs.Rows.{rows_in}
use Rattle.pj_value.proofs.GatherLemmas.{AreColumnsOf-kinds, rows_in-first}
use Rattle.pj_value.proofs.rows.Rows.from_columns.Goals as goal

pub invariant_of-result : goal.invariant_of-result
invariant_of-result c =
    let first : length c.index.result.now.values ≡ rows_in c.args.columns.items =
    rows_in-first c.args.columns.items c.index.result.now c.requires.some c.index.ensures in
    rw (c.in_ok-kinds.ensures.kinds, c.as_slice.ensures.value, c.len-len.ensures, first)
    (AreColumnsOf-kinds (rows_in c.args.columns.items) c.args.columns.items c.requires.lengths
    (rw c.as_slice.ensures.value at c.in_ok-kinds.ensures.of_kind))
