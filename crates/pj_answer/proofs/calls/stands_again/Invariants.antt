use Rattle.std.proofs.Common.{◌≡◌, ◌+◌, drop, get_or}
use Rattle.pj_value.specs.declared.value.Value.TheVariants as values
use Rattle.pj_value.specs.Aggregates.{has_value}
use Rattle.pj_answer.proofs.calls.stands_again.Given as goal

abbrev pub invariant-loop-later : goal.invariant-loop-later
invariant-loop-later l =
    has_value (get_or l.column.values l.at (values.Num 0)) (drop (l.at + 1) l.column.values)
    ≡ has_value (get_or l.column.values l.at (values.Num 0)) (drop l.later l.column.values)
