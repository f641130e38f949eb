use Rattle.std.proofs.Common.{◌≡◌, ◌++◌, map, take, drop}
use Rattle.pj_value.specs.Layout.{truncated}
use Rattle.pj_value.proofs.columns.truncate_columns.Given as goal

abbrev pub invariant-loop-column : goal.invariant-loop-column
invariant-loop-column l =
    l.column-items
    ≡ map (truncated l.len) (take l.column-index l.fn.columns.items) ++ drop l.column-index l.fn.columns.items
