use Rattle.std.proofs.Common.{◌≡◌, ◌%◌, ◌^◌, map, take}
use Rattle.std.specs.Prelude.{sum}
use Rattle.pj_value.specs.Aggregates.{number_in}
use Rattle.pj_answer.proofs.calls.sum.Given as goal

abbrev pub invariant-loop-at : goal.invariant-loop-at
invariant-loop-at l = l.total ≡ sum (map number_in (take l.at l.column.values)) % 2 ^ 64
