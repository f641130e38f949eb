use Rattle.std.proofs.Common.{◌≡◌, ◌++◌, not, map, take, drop}
use Rattle.pj_block.proofs.compare.not_each.Given as goal

abbrev pub invariant-loop-holds : goal.invariant-loop-holds
invariant-loop-holds l =
    l.held ≡ map not (take l.holds-index l.initial.held) ++ drop l.holds-index l.initial.held
