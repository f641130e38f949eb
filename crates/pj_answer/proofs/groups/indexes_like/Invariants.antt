use Rattle.std.proofs.Common.{◌≡◌, [], get_or}
use Rattle.std.specs.List.{filter, range_with_len}
use Rattle.pj_answer.specs.Answers.{same_row}
use Rattle.pj_answer.proofs.groups.indexes_like.Given as goal

abbrev pub invariant-loop-other : goal.invariant-loop-other
invariant-loop-other l =
    l.indexes.items
    ≡ filter (λ k. same_row (get_or l.rows.rows l.at []) (get_or l.rows.rows k [])) (range_with_len 0 l.other)
