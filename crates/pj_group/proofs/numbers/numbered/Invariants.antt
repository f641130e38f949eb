use Rattle.std.proofs.Common.{◌≡◌, length}
use Rattle.pj_group.specs.Numbers.{keys_of_rows, AreNumbers}
use Rattle.pj_group.proofs.numbers.numbered.Given as goal

abbrev pub invariant-loop-at : goal.invariant-loop-at
invariant-loop-at l =
    AreNumbers l.initial.keys.keys (keys_of_rows l.columns l.at) l.keys.keys
    (record { groups = l.groups; openings = l.openings })
    × (l.known ≡ length l.initial.keys.keys)
