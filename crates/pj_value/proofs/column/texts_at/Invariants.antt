use Rattle.std.proofs.Common.{◌≡◌, get_or, map, take, []}
use Rattle.pj_value.proofs.column.texts_at.Given as goal

abbrev pub invariant-loop-at : goal.invariant-loop-at
invariant-loop-at l = l.found.items ≡ map (λ at. get_or l.texts at []) (take l.at-index l.indexes)
