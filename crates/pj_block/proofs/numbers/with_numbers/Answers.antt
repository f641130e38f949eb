use Rattle.std.proofs.Common.{rules}
use Rattle.std.proofs.lemmas.Simd.{zip2_splat_left}
use Rattle.pj_block.specs.Blocks.{of_two}
use Rattle.pj_block.proofs.TurnedLemmas.{each-turned}
use Rattle.pj_block.proofs.numbers.with_numbers.Goals as goal

pub returns-in_ok-found-in-Same : goal.returns-in_ok-found-in-Same
returns-in_ok-found-in-Same c =
    rw (
      c.in-Same.is,
      zip2_splat_left (of_two c.args.arith) c.in-Same.first c.args.len c.args.more.now
          c.requires.second,
      ← each-turned c.args.arith c.in-Same.first c.args.more.now,
    )
    (search rules)
