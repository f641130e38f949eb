use Rattle.std.proofs.Common.{◌<◌, length, get_or, arith}
use Rattle.std.proofs.lemmas.List.{get_or_default}
use Rattle.pj_block.specs.Blocks.{of_two}
use Rattle.pj_block.proofs.BlockLemmas.{zip2_over_more}
use Rattle.pj_block.proofs.numbers.combine_rows.Goals as goal

pub loop-at-preserved : goal.loop-at-preserved
loop-at-preserved c =
    let i = c.loop-at.at in
    let ns = c.loop-at.numbers in
    let ms = c.args.more.now in
    let long : i < length c.args.numbers.now = omega arith in
    let other : i < length ms = omega (arith, c.requires) in
    rw c.of.ensures
    (zip2_over_more (of_two c.args.arith) c.args.numbers.now ns ms i (get_or ns i 0) (get_or ms i 0) long
    other
    c.loop-at.invariant (get_or_default ns i 0 (get_or ns i 0) (omega (arith, c.loop-at.auto.numbers)))
    (get_or_default ms i 0 (get_or ms i 0) other))
