use Rattle.std.proofs.Common.{sym}
use Rattle.pj_block.specs.Blocks.{of_two}
use Rattle.pj_block.proofs.BlockLemmas.{map-replicate}
use Rattle.pj_block.proofs.numbers.with_number.Goals as goal

pub returns-in-Same : goal.returns-in-Same
returns-in-Same c =
    rw (c.in-Same.is, c.of.ensures)
    (sym (map-replicate (λ n. of_two c.args.arith n c.args.b) c.args.len c.in-Same.first))
