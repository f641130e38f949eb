use Rattle.std.proofs.Common.{◌+◌, drop}
use Rattle.std.specs.Option.{option_map}
use Rattle.pj_value.specs.Values.{value_of}
use Rattle.pj_match.specs.Ranges.{bounds}
use Rattle.pj_match.proofs.RangeLemmas.{leaves-item, leaves-more, leaves-open, leaves-none}
use Rattle.pj_match.proofs.range.range_of.Goals as goal

pub returns-in-None : goal.returns-in-None
returns-in-None c =
    let all = bounds c.args.filter.now in
    let key = c.args.key.now in
    let at = c.components.component-index in
    let low = rw c.in_ok-low-in-None.was at c.ended.ensures in
    let high = rw c.in_ok-high-in-None.was at c.ended-in-None.ensures in
    rw (low, high)
    (leaves-open all key c.component-item.result (drop (at + 1) key) c.components.low.items
    c.components.high.items (option_map value_of c.chosen-in-None.result)
    (option_map value_of c.chosen-in-None-2.result)
    (leaves-item all key at c.component-item.result c.components.low.items c.components.high.items
    c.components.invariant c.components-test.true c.component-item.is)
    (rw c.in-None.is at c.chosen.ensures) c.chosen-in-None.ensures c.chosen-in-None-2.ensures)

pub components-preserved : goal.components-preserved
components-preserved c =
    let all = bounds c.args.filter.now in
    let key = c.args.key.now in
    let at = c.components.component-index in
    let low = rw c.in_ok-push-in-Some.was at c.push.ensures.items in
    let high = rw c.in_ok-push-in-Some-2.was at c.push-in-Some.ensures.items in
    let one = rw c.in_ok-to_value-in-Some.was at c.to_value.ensures in
    let other = rw c.in_ok-to_value-in-Some-2.was at c.to_value-in-Some.ensures in
    rw (low, high, one, other)
    (leaves-more all key c.component-item.result (drop (at + 1) key) c.components.low.items
    c.components.high.items (value_of c.in-Some.value)
    (leaves-item all key at c.component-item.result c.components.low.items c.components.high.items
    c.components.invariant c.components-test.true c.component-item.is)
    (rw c.in-Some.is at c.chosen.ensures))

pub returns : goal.returns
returns c =
    rw (c.from_vec.ensures, c.from_vec-2.ensures)
    (leaves-none (bounds c.args.filter.now) c.args.key.now c.components.component-index c.components.low.items
    c.components.high.items c.components.invariant c.components-test.false)
