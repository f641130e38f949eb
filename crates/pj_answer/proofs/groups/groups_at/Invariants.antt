use Rattle.std.proofs.Common.{◌≡◌, map, take}
use Rattle.pj_answer.specs.Groups.{group_like}
use Rattle.pj_answer.proofs.groups.groups_at.Given as goal

abbrev pub invariant-loop-at : goal.invariant-loop-at
invariant-loop-at l = l.groups.items ≡ map (group_like l.held l.keys.rows) (take l.at-index l.indexes)
