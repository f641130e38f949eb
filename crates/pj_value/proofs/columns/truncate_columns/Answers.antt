use Rattle.std.proofs.Common.{arith}
use Rattle.std.proofs.lemmas.List.Edits.{map_over_more}
use Rattle.pj_value.specs.Layout.{truncated}
use Rattle.pj_value.proofs.columns.truncate_columns.Goals as goal

pub loop-column-preserved : goal.loop-column-preserved
loop-column-preserved c =
    rw (c.truncate.ensures, ← c.column-item.is)
    (map_over_more (truncated c.args.len) c.args.columns.now.items c.loop-column.column-items
    c.loop-column.column-index c.column-item.result
    (rw (← c.deref_mut-column-items.ensures.value) (omega arith)) c.loop-column.invariant c.column-item.is)
