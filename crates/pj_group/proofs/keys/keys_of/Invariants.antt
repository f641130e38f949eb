use Rattle.std.proofs.Common.{◌≡◌, map, take}
use Rattle.pj_group.specs.Indexes.{key_for, key_values}
use Rattle.pj_group.proofs.keys.keys_of.Given as goal

abbrev pub invariant-loop-key : goal.invariant-loop-key
invariant-loop-key l = map key_values l.found.items ≡ map (key_for l.rows) (take l.key-index l.keys)
