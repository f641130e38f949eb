use Rattle.std.proofs.Common.{map, sym, ap, ◌∙◌}
use Rattle.pj_value.specs.Values.{value_of}
use Rattle.pj_agg.specs.InOrder.{in_order}
use Rattle.pj_agg.proofs.InOrderLemmas.{in_order-same, in_order-rising}
use Rattle.pj_agg.proofs.pile.distinct_cells.Goals as goal

pub returns : goal.returns
returns g c =
    let found = map value_of c.arrange.new.items.items in
    sym (in_order-rising found c.arrange.ensures.rises)
    ∙ in_order-same found (map value_of c.in_ok-cells.cells.items) c.arrange.ensures.same
    ∙ ap in_order c.in_ok-cells.ensures
