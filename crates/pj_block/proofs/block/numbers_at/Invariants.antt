use Rattle.std.proofs.Common.{◌≡◌, map, take, get_or}
use Rattle.pj_block.proofs.block.numbers_at.Given as goal

abbrev pub invariant-loop-at : goal.invariant-loop-at
invariant-loop-at l = l.found.items ≡ map (λ at. get_or l.numbers at 0) (take l.at-index l.indexes)
