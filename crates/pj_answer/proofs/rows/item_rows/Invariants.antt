use Rattle.std.proofs.Common.{◌≡◌, map, take}
use Rattle.pj_answer.specs.Answers.{item_kind}
use Rattle.pj_answer.specs.Rows.{of_kinds, item_row}
use Rattle.pj_answer.proofs.rows.item_rows.Given as goal

abbrev pub invariant-loop-group : goal.invariant-loop-group
invariant-loop-group l =
    l.rows ≡ of_kinds (map (item_kind l.kinds) l.items) (map (item_row l.items) (take l.group-index l.groups))
