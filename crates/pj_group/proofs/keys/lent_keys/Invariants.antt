use Rattle.std.proofs.Common.{◌≡◌, map, take}
use Rattle.pj_group.specs.Indexes.{key_values}
use Rattle.pj_group.specs.Lines.{keys_in_columns}
use Rattle.pj_group.proofs.keys.lent_keys.Given as goal

abbrev pub invariant-loop-at : goal.invariant-loop-at
invariant-loop-at l =
    map key_values l.found.items ≡ keys_in_columns (take l.at l.keys) (take l.at l.columns)
