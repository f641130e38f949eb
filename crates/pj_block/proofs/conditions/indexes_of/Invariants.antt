use Rattle.std.proofs.Common.{◌≡◌, false, get_or}
use Rattle.std.specs.List.{filter, range_with_len}
use Rattle.pj_block.proofs.conditions.indexes_of.Given as goal

abbrev pub invariant-loop-at : goal.invariant-loop-at
invariant-loop-at l = l.indexes.items ≡ filter (λ at. get_or l.held at false) (range_with_len 0 l.at)
