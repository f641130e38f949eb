use Rattle.std.proofs.Common.{◌+◌, ◌-◌, arith}
use Rattle.pj_phrase.proofs.ManyLoop.{negated-step}
use Rattle.pj_phrase.proofs.values.nots.negated.Goals as goal

pub nots-preserved : goal.nots-preserved
nots-preserved c =
    let now = c.args.count - c.nots._i in
    let next = c.args.count - (c.nots._i + 1) in
    rw c.in_ok-inner.ensures (negated-step now next c.nots.tree _ c.nots.invariant (omega arith))
