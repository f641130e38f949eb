use Rattle.std.proofs.Common.{◌≡◌, ◌++◌, map, take, drop}
use Rattle.pj_block.specs.Blocks.{of_two}
use Rattle.pj_block.proofs.numbers.combine_each.Given as goal

abbrev pub invariant-loop-n : goal.invariant-loop-n
invariant-loop-n l =
    l.numbers ≡ map (λ n. of_two l.arith n l.number) (take l.n-index l.initial.numbers) ++ drop l.n-index
    l.initial.numbers
