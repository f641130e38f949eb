use Rattle.std.proofs.Common.{◌≡◌, map, take, get_or}
use Rattle.pj_group.proofs.slots.indexes_at.Given as goal

abbrev pub invariant-loop-place : goal.invariant-loop-place
invariant-loop-place l = l.found.items ≡ map (λ at. get_or l.indexes at 0) (take l.place-index l.places)
