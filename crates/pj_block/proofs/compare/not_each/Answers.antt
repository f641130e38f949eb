use Rattle.std.proofs.Common.{◌<◌, not, false, length, get_or, arith}
use Rattle.std.proofs.lemmas.List.{get_or_default}
use Rattle.std.proofs.lemmas.List.Edits.{map_over_more}
use Rattle.pj_block.proofs.compare.not_each.Goals as goal

pub loop-holds-preserved : goal.loop-holds-preserved
loop-holds-preserved c =
    let i = c.loop-holds.holds-index in
    let bs = c.loop-holds.held in
    let long : i < length c.args.held.now = omega arith in
    map_over_more not c.args.held.now bs i (get_or bs i false) long c.loop-holds.invariant
    (get_or_default bs i false (get_or bs i false) (omega (arith, c.loop-holds.auto.held)))
