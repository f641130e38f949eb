use Rattle.std.proofs.Common.{length, map, sym, ap, ◌∙◌}
use Rattle.std.proofs.lemmas.List.{length-map}
use Rattle.pj_agg.specs.InOrder.{in_order}
use Rattle.pj_agg.proofs.InOrderLemmas.{in_order-rising}
use Rattle.pj_agg.proofs.pile.Pile.distinct_len.Goals as goal

pub returns-then-is_rising : goal.returns-then-is_rising
returns-then-is_rising g c =
    let value = g.T.Valued.value in
    let items = c.as_slice-items.result.now in
    sym (length-map items value)
    ∙ ap length (sym (in_order-rising (map value items) (c.is_rising.ensures c.if-is_rising.true)))
    ∙ ap (λ xs. length (in_order (map value xs))) c.as_slice-items.ensures.value
