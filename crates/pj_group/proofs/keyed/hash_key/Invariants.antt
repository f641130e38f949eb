use Rattle.std.proofs.Common.{◌≡◌, drop, fold}
use Rattle.pj_group.specs.Keyed.{row_writes}
use Rattle.pj_group.proofs.keyed.hash_key.Given as goal

abbrev pub invariant-loop-at : goal.invariant-loop-at
invariant-loop-at g l =
    fold g.H.Hasher.write l.initial.state (row_writes (g.K.Cells.key l.key))
    ≡ fold g.H.Hasher.write l.state (row_writes (drop l.at (g.K.Cells.key l.key)))
