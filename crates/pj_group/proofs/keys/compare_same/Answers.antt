use Rattle.std.proofs.Common.{arith}
use Rattle.pj_value.specs.Values.{value_of}
use Rattle.pj_group.proofs.OrderLemmas.{values_cmp-same}
use Rattle.pj_group.proofs.keys.compare_same.Goals as goal

pub returns-then-max-len : goal.returns-then-max-len
returns-then-max-len c =
    values_cmp-same c.args.len c.args.a c.args.b (value_of c.args.cell)
    (omega (arith, c.max.ensures, c.if-max-len.true)) (omega (arith, c.max.ensures, c.if-max-len.true))
