use Rattle.std.proofs.Common.{◌<◌, ◌||◌, false, length, get_or, arith}
use Rattle.std.proofs.lemmas.List.{get_or_default}
use Rattle.pj_block.proofs.BlockLemmas.{zip2_over_more}
use Rattle.pj_block.proofs.compare.or_each.Goals as goal

pub loop-at-preserved : goal.loop-at-preserved
loop-at-preserved c =
    let i = c.loop-at.at in
    let bs = c.loop-at.held in
    let os = c.args.other.now in
    let long : i < length c.args.held.now = omega arith in
    let other : i < length os = omega (arith, c.requires) in
    zip2_over_more (λ a b. a || b) c.args.held.now bs os i (get_or bs i false) (get_or os i false) long other
    c.loop-at.invariant (get_or_default bs i false (get_or bs i false) (omega (arith, c.loop-at.auto.held)))
    (get_or_default os i false (get_or os i false) other)
