use Rattle.pj_block.specs.Blocks.{number_meets}
use Rattle.pj_block.proofs.BlockLemmas.{map-replicate}
use Rattle.pj_block.proofs.compare.compare_with_number.Goals as goal

pub returns-in-Same : goal.returns-in-Same
returns-in-Same c =
    rw (c.in-Same.is, map-replicate (λ n. number_meets c.args.op n c.args.number) c.args.len c.in-Same.first)
    (rw (c.is_met_by.ensures, c.cmp.ensures) at c.filled.ensures)
