use Rattle.std.proofs.Common.{◌≡◌, ◌++◌, ◌&&◌, take, drop}
use Rattle.std.specs.Simd.Lanes.{zip2}
use Rattle.pj_block.proofs.compare.and_each.Given as goal

abbrev pub invariant-loop-at : goal.invariant-loop-at
invariant-loop-at l = l.held
    ≡ zip2 (λ a b. a && b) (take l.at l.initial.held) l.other ++ drop l.at l.initial.held
