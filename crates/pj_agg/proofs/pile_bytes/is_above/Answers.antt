use Rattle.std.proofs.Common.{◌≡◌, ◌-◌, suc, length, map, get_or, sym, ap, ◌∙◌, arith, true≢false}
use Rattle.std.specs.Ordering.{is_lt}
use Rattle.std.proofs.lemmas.List.{get_or-map, length-map}
use Rattle.pj_agg.proofs.ListLemmas.{Less-from_is_lt, Rises-above, Rises-last}
use Rattle.pj_agg.proofs.pile_bytes.is_above.Goals as goal

pub returns-in-Some-clause-above : goal.returns-in-Some-clause-above
returns-in-Some-clause-above g c =
    let value = g.T.Valued.value in
    let items = c.args.items.now in
    let k = length items - 1 in
    let last = c.in-Some.last.now in
    let some = c.in-Some.ensures.item.3.0 in
    let long : length (map value items) ≡ suc k = omega (arith, length-map items value, some) in
    let here : value last ≡ get_or (map value items) k (value last) =
    ap value c.in-Some.ensures.item.1 ∙ sym (get_or-map value items k last (value last) (omega (arith, some))) in
    λ e r. Rises-above (map value items) k (value last) (value c.args.item.now) long here
    (sym c.compare.ensures ∙ Less-from_is_lt c.compare.result (sym c.is_lt.ensures ∙ e)) r

pub returns-in-Some-clause-not_above : goal.returns-in-Some-clause-not_above
returns-in-Some-clause-not_above g c =
    let value = g.T.Valued.value in
    let items = c.args.items.now in
    let k = length items - 1 in
    let last = c.in-Some.last.now in
    let some = c.in-Some.ensures.item.3.0 in
    let long : length (map value items) ≡ suc k = omega (arith, length-map items value, some) in
    let here : value last ≡ get_or (map value items) k (value last) =
    ap value c.in-Some.ensures.item.1 ∙ sym (get_or-map value items k last (value last) (omega (arith, some))) in
    λ e r.
    true≢false (sym (ap is_lt (c.compare.ensures
    ∙ Rises-last (map value items) k (value last) (value c.args.item.now) long here r))
    ∙ sym c.is_lt.ensures ∙ e)
