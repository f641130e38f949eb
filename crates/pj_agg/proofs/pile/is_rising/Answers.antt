use Rattle.std.proofs.Common.{◌≡◌, ◌-◌, ◌<◌, length, map, sym, ap, ◌∙◌, arith}
use Rattle.std.specs.declared.cmp.Ordering.TheVariants.{Less}
use Rattle.std.proofs.lemmas.List.{get_or-map, length-map}
use Rattle.std.proofs.lemmas.List.Sorted.{all_adjacent_more}
use Rattle.pj_value.specs.Order.{value_cmp}
use Rattle.pj_value.proofs.RisingLemmas.{Rises-from_neighbours}
use Rattle.pj_agg.proofs.ListLemmas.{Less-from_is_lt}
use Rattle.pj_agg.proofs.pile.is_rising.Goals as goal

pub pairs-preserved : goal.pairs-preserved
pairs-preserved g c =
    let value = g.T.Valued.value in
    let items = c.args.items.now in
    let at = c.pairs.at in
    let low : at - 1 < length items = omega arith in
    let less : c.compare.result ≡ Less =
    Less-from_is_lt c.compare.result (sym c.is_lt.ensures ∙ c.if-not-is_lt.false) in
    all_adjacent_more (map value items) (λ x y. value_cmp x y ≡ Less) at (omega arith) c.pairs.invariant
    (λ d.
    (λ i. value_cmp
    ((get_or-map value items (at - 1) c.index-items-at.result d low ∙ ap value (sym c.index-items-at.is)) i)
    ((get_or-map value items at c.index-items-at-in-pairs.result d c.pairs-test.true
    ∙ ap value (sym c.index-items-at-in-pairs.is)) i))
    ∙ sym c.compare.ensures ∙ less)

pub returns : goal.returns
returns g c = λ e.
    Rises-from_neighbours (map g.T.Valued.value c.args.items.now)
    (λ k d l. c.pairs.invariant k d (omega (arith, length-map c.args.items.now g.T.Valued.value)))
