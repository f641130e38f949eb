use Rattle.std.proofs.lemmas.Simd.{zip2_splat}
use Rattle.pj_block.specs.Blocks.{number_meets, numbers_of}
use Rattle.pj_block.proofs.compare.compare_numbers.Goals as goal

pub returns-in-Same : goal.returns-in-Same
returns-in-Same c =
    rw (
      c.in-Same.is,
      zip2_splat (number_meets c.args.op) (numbers_of c.args.len c.args.a) c.args.len c.in-Same.number
          c.requires.first,
    )
    c.compare_with_number.ensures
