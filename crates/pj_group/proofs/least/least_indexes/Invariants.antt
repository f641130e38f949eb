use Rattle.std.proofs.Common.{map, take}
use Rattle.pj_group.specs.Least.{KeepsFirst}
use Rattle.pj_group.specs.Indexes.{key_values, is_before}
use Rattle.pj_group.proofs.least.least_indexes.Given as goal

abbrev pub invariant-loop-at : goal.invariant-loop-at
invariant-loop-at l =
    KeepsFirst (is_before (map key_values l.keys)) l.most (take l.at-index l.indexes) l.best.indexes.items
    l.best.worst
