use Rattle.pj_value.proofs.RowsLemmas.{AreColumnsOf-none}
use Rattle.pj_value.proofs.rows.Rows.new.Goals as goal

pub invariant_of-result : goal.invariant_of-result
invariant_of-result c =
    rw (c.in_ok-kinds.ensures.items, c.in_ok-columns.ensures) (AreColumnsOf-none c.args.kinds.now)
