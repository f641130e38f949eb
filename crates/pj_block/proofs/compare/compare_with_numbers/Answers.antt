use Rattle.std.proofs.lemmas.Simd.{zip2_splat_left}
use Rattle.pj_block.specs.Blocks.{number_meets}
use Rattle.pj_block.proofs.BlockLemmas.{map-zip}
use Rattle.pj_block.proofs.compare.compare_with_numbers.Goals as goal

pub returns-in-Same : goal.returns-in-Same
returns-in-Same c =
    rw (
      c.in-Same.is,
      zip2_splat_left (number_meets c.args.op) c.in-Same.first c.args.len c.args.more.now c.requires.second,
    )
    c.met_by_one.ensures

pub returns-in-Lent : goal.returns-in-Lent
returns-in-Lent c =
    rw (c.in-Lent.is, ← map-zip (number_meets c.args.op) c.in-Lent.lent.now c.args.more.now)
    c.met_by_rows.ensures

pub returns-in-Own : goal.returns-in-Own
returns-in-Own c =
    rw (c.in-Own.is, ← map-zip (number_meets c.args.op) c.in-Own.own.items c.args.more.now)
    (rw c.as_slice.ensures.value at c.met_by_rows-in-Own.ensures)
