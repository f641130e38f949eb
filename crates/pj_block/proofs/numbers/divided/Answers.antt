use Rattle.std.proofs.Common.{sym}
use Rattle.pj_block.specs.Blocks.{of_parts}
use Rattle.pj_block.proofs.BlockLemmas.{map-replicate}
use Rattle.pj_block.proofs.numbers.divided.Goals as goal

pub returns-in-Same : goal.returns-in-Same
returns-in-Same c len =
    rw (c.in-Same.is, c.of.ensures)
    (sym (map-replicate (λ n. of_parts c.args.part n c.args.d) len c.in-Same.number))
