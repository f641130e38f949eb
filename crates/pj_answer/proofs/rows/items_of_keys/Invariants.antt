use Rattle.std.proofs.Common.{◌≡◌, map, take}
use Rattle.pj_answer.proofs.rows.items_of_keys.Given as goal

abbrev pub invariant-loop-key : goal.invariant-loop-key
invariant-loop-key l = l.items.items ≡ map (λ key. key.item) (take l.key-index l.keys)
