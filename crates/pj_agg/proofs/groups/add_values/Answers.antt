use Rattle.std.proofs.Common.{◌≡◌, length, map, take, get_or, subst, refl, sym, ap, ◌∙◌, arith}
use Rattle.std.specs.List.{AllZip}
use Rattle.std.proofs.lemmas.List.{get_or-map, length-map}
use Rattle.pj_value.specs.Values.{value_of}
use Rattle.pj_value.specs.Summaries.{Stands}
use Rattle.pj_agg.specs.Groups.{added}
use Rattle.pj_agg.proofs.GroupLemmas.{added_from-none, added-more}
use Rattle.pj_agg.proofs.groups.add_values.Goals as goal

pub rows-init : goal.rows-init
rows-init g c = record {
  added = λ groups a. subst (AllZip (Stands g.S.State.agg) (map g.S.State.summary c.args.states.now.items))
      (sym (added_from-none 0 groups)) a;
  kind = λ kind a. a;
  len = refl;
}

pub rows-preserved : goal.rows-preserved
rows-preserved g c =
    let ns = c.args.numbers.now in
    let value = g.T.Valued.value in
    let vs = map value c.args.values.now in
    let i = c.rows.at in
    let x = c.index-values-at.result in
    let v = value_of c.as_cell.result in
    let long : length vs ≡ length ns =
    omega (arith, length-map c.args.values.now value, c.requires.len) in
    let here : v ≡ get_or vs i v =
    c.as_cell.ensures ∙ ap value c.index-values-at.is
    ∙ sym (get_or-map value c.args.values.now i x v (omega (arith, c.requires.len))) in
    record {
      added = λ groups a.
          subst (AllZip (Stands g.S.State.agg) (map g.S.State.summary c.add_value.new.states.items))
          (sym (added-more groups ns vs i v long c.rows-test.true here))
          (c.in_ok-add_value.ensures.added (added groups (take i ns) (take i vs))
          (c.rows.invariant.added groups a));
      kind = λ kind a. c.add_value.ensures.kind kind (c.rows.invariant.kind kind a);
      len = c.add_value.ensures.len ∙ c.rows.invariant.len;
    }
