use Rattle.std.proofs.Common.{◌≡◌, ◌++◌, take, drop}
use Rattle.std.specs.Simd.Lanes.{zip2}
use Rattle.pj_block.specs.Blocks.{of_two}
use Rattle.pj_block.proofs.numbers.combine_rows.Given as goal

abbrev pub invariant-loop-at : goal.invariant-loop-at
invariant-loop-at l =
    l.numbers ≡ zip2 (of_two l.arith) (take l.at l.initial.numbers) l.more ++ drop l.at l.initial.numbers
