use Rattle.std.proofs.Common.{◌≡◌, ◌<◌, length, map, ◌∙◌, arith}
use Rattle.std.proofs.lemmas.List.{length-map, take_rest}
use Rattle.pj_agg.proofs.ReadLemmas.{count-right}
use Rattle.pj_agg.proofs.pile_bytes.read_distinct.Goals as goal

pub returns-then-len-count-clause-damaged : goal.returns-then-len-count-clause-damaged
returns-then-len-count-clause-damaged g c = λ e found h f.
    let value = g.T.Valued.value in
    let items = c.in_ok-items.items.items in
    let bytes = c.args.bytes.now in
    let front = c.in-Some.ensures in
    let long : length (map value items) ≡ length items = length-map items value in
    let few : length (map value items) < 18446744073709551616 = omega (arith, c.in_ok-items.items.ok.0) in
    let same : length (map value items) ≡ c.in-Some.count =
    count-right g.T.Item.kind (map value items) found bytes c.in-Some.count c.in_ok-items.ensures.whole.1 h.1
    (omega arith) few front.1 (c.in_ok-items.ensures.bytes ∙ take_rest bytes 8) front.2 f in
    c.if-len-count.true (omega (arith, same, long, c.in_ok-items.items.ok.0))
