use Rattle.std.proofs.Common.{◌≡◌, map, take}
use Rattle.pj_answer.specs.Answers.{first_row}
use Rattle.pj_group.specs.Counts.{value_with}
use Rattle.pj_group.proofs.counts.values_of_counts.Given as goal

abbrev pub invariant-loop-item : goal.invariant-loop-item
invariant-loop-item l = l.row.items ≡ map (value_with (first_row l.rows.rows) l.count)
    (take l.item-index l.items)
