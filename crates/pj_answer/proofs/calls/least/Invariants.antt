use Rattle.std.proofs.Common.{◌≡◌, take}
use Rattle.pj_value.specs.Values.{value_of}
use Rattle.pj_value.specs.Aggregates.{least}
use Rattle.pj_answer.proofs.calls.least.Given as goal

abbrev pub invariant-loop-at : goal.invariant-loop-at
invariant-loop-at l = value_of l.found ≡ least l.column.kind (take l.at l.column.values)
