use Rattle.std.proofs.Common.{◌≡◌, ◌++◌, map, take, drop}
use Rattle.pj_block.specs.Blocks.{of_parts}
use Rattle.pj_block.proofs.numbers.divide_each.Given as goal

abbrev pub invariant-loop-n : goal.invariant-loop-n
invariant-loop-n l =
    l.numbers ≡ map (λ n. of_parts l.part n l.divisor) (take l.n-index l.initial.numbers) ++ drop l.n-index
    l.initial.numbers
