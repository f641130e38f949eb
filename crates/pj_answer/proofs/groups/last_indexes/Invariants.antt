use Rattle.std.proofs.Common.{◌≡◌, not}
use Rattle.std.specs.List.{filter, range_with_len}
use Rattle.pj_answer.specs.Groups.{comes_again}
use Rattle.pj_answer.proofs.groups.last_indexes.Given as goal

abbrev pub invariant-loop-at : goal.invariant-loop-at
invariant-loop-at l = l.indexes.items ≡ filter (λ at. not (comes_again l.rows.rows at))
    (range_with_len 0 l.at)
