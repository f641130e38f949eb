use Rattle.std.proofs.Common.{◌≡◌, take}
use Rattle.pj_answer.specs.Rows.{item_row}
use Rattle.pj_answer.proofs.rows.item_row.Given as goal

abbrev pub invariant-loop-item : goal.invariant-loop-item
invariant-loop-item l = l.row.items ≡ item_row (take l.item-index l.items) l.group
