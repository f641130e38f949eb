use Rattle.std.proofs.Common.{map}
use Rattle.pj_agg.proofs.InOrderLemmas.{in_order-rising}
use Rattle.pj_agg.proofs.pile.Pile.decode.Goals as goal

pub returns-clause-bytes : goal.returns-clause-bytes
returns-clause-bytes g c =
    let value = g.T.Valued.value in
    rw c.from_rising.ensures
    (rw (in_order-rising (map value c.in_ok-items.items.items) c.in_ok-items.ensures.whole.0) c.in_ok-items.ensures.bytes)

pub returns-clause-whole : goal.returns-clause-whole
returns-clause-whole g c =
    let value = g.T.Valued.value in
    rw c.from_rising.ensures
    (rw (in_order-rising (map value c.in_ok-items.items.items) c.in_ok-items.ensures.whole.0) c.in_ok-items.ensures.whole)
