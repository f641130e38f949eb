use Rattle.std.proofs.lemmas.Simd.{zip2_splat}
use Rattle.pj_block.specs.Blocks.{of_two, numbers_of}
use Rattle.pj_block.proofs.numbers.computed.Goals as goal

pub returns-in-Same : goal.returns-in-Same
returns-in-Same c =
    rw (
      c.in-Same.is,
      zip2_splat (of_two c.args.arith) (numbers_of c.args.n c.args.a) c.args.n c.in-Same.number
          c.requires.first,
    )
    c.with_number.ensures
