use Rattle.std.proofs.Common.{◌≡◌, take}
use Rattle.pj_group.specs.Keyed.{key_at}
use Rattle.pj_group.proofs.keyed.KeyAt.to_key.Given as goal

abbrev pub invariant-loop-column : goal.invariant-loop-column
invariant-loop-column l =
    l.values.items ≡ key_at (take l.column-index l.column-items) l.self-inside.at
