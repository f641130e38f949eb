use Rattle.std.proofs.Common.{◌<◌, length, get_or, arith}
use Rattle.std.proofs.lemmas.List.{get_or_default}
use Rattle.std.proofs.lemmas.List.Edits.{map_over_more}
use Rattle.pj_block.specs.Blocks.{of_parts}
use Rattle.pj_block.proofs.numbers.divide_each.Goals as goal

pub loop-n-preserved : goal.loop-n-preserved
loop-n-preserved c =
    let i = c.loop-n.n-index in
    let ns = c.loop-n.numbers in
    let long : i < length c.args.numbers.now = omega arith in
    rw c.of.ensures
    (map_over_more (λ n. of_parts c.args.part n c.args.divisor) c.args.numbers.now ns i (get_or ns i 0) long
    c.loop-n.invariant (get_or_default ns i 0 (get_or ns i 0) (omega (arith, c.loop-n.auto.numbers))))
