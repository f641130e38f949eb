use Rattle.std.proofs.Common.{◌≡◌, map, sym, ap, subst, ◌∙◌}
use Rattle.std.specs.List.{AllByRecursion}
use Rattle.std.proofs.lemmas.Result.{on_ok_weaker}
use Rattle.pj_value.specs.Values.{Fits, value_of}
use Rattle.pj_agg.specs.InOrder.{in_order}
use Rattle.pj_agg.proofs.InOrderLemmas.{Rises-in_order, in_order-rising, in_order-of_kind}
use Rattle.pj_agg.proofs.pile_bytes.write_distinct.Goals as goal

pub returns-then-is_rising-clause-bytes : goal.returns-then-is_rising-clause-bytes
returns-then-is_rising-clause-bytes g c =
    let vs = map g.T.Valued.value c.args.items.now in
    rw (in_order-rising vs (c.is_rising.ensures c.if-is_rising.true)) c.write_all.ensures.bytes

pub returns-then-is_rising-clause-whole : goal.returns-then-is_rising-clause-whole
returns-then-is_rising-clause-whole g c =
    let value = g.T.Valued.value in
    let items = c.args.items.now in
    let vs = map value items in
    on_ok_weaker c.write_all.result
    (λ f. (
      Rises-in_order vs,
      in_order-of_kind value g.T.Item.kind g.met.T.Item.of_kind items
          (subst (AllByRecursion Fits) (sym (in_order-rising vs (c.is_rising.ensures c.if-is_rising.true))) f),
    ))
    c.write_all.ensures.fits

pub returns-clause-whole : goal.returns-clause-whole
returns-clause-whole g c =
    let value = g.T.Valued.value in
    let items = c.args.items.now in
    let cells : map value_of c.as_slice.result.now ≡ in_order (map value items) =
    ap (map value_of) c.as_slice.ensures.value ∙ c.in_ok-cells.ensures in
    on_ok_weaker c.write_all-2.result
    (λ f. (
      Rises-in_order (map value items),
      in_order-of_kind value g.T.Item.kind g.met.T.Item.of_kind items (subst (AllByRecursion Fits) cells f),
    ))
    c.write_all-2.ensures.fits
