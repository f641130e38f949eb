use Rattle.std.proofs.Common.{◌≡◌, map, drop}
use Rattle.pj_group.specs.Indexes.{key_values, indexes_cmp}
use Rattle.pj_group.proofs.keys.compare.Given as goal

abbrev pub invariant-loop-key : goal.invariant-loop-key
invariant-loop-key l =
    indexes_cmp (map key_values l.keys) l.a l.b ≡ indexes_cmp (map key_values
    (drop l.key-index l.keys)) l.a l.b
