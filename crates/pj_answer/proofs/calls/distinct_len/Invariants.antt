use Rattle.std.proofs.Common.{◌≡◌, ◌+◌, ◌≤◌, length, drop}
use Rattle.pj_value.specs.Aggregates.{distinct}
use Rattle.pj_answer.proofs.calls.distinct_len.Given as goal

abbrev pub invariant-loop-at : goal.invariant-loop-at
invariant-loop-at l =
    (l.count + length (distinct (drop l.at l.column.values)) ≡ length (distinct l.column.values))
    × (l.count ≤ l.at)
