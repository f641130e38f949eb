use Rattle.std.proofs.Common.{◌≡◌, map, take}
use Rattle.pj_answer.specs.Answers.{item_kind}
use Rattle.pj_answer.proofs.rows.item_kinds.Given as goal

abbrev pub invariant-loop-item : goal.invariant-loop-item
invariant-loop-item l = l.found.items ≡ map (item_kind l.kinds) (take l.item-index l.items)
