use Rattle.std.proofs.Common.{◌∷◌, [], ◌++◌, map, ap, sym, ◌∙◌, arith}
use Rattle.std.proofs.lemmas.List.{map-append}
use Rattle.pj_expr.specs.declared.query.OrderKey.{OrderKey}
use Rattle.pj_value.specs.Columns.{KindedValues}
use Rattle.pj_group.specs.Indexes.{key_values}
use Rattle.pj_group.proofs.ArrangedLemmas.{keys_in_columns-more}
use Rattle.pj_group.proofs.keys.lent_keys.Goals as goal

pub loop-at-preserved : goal.loop-at-preserved
loop-at-preserved c =
    let key = c.index-keys-at.result in
    let column = c.index-columns-at.result in
    ap (map key_values) c.in_ok-push.ensures.items
    ∙ map-append key_values c.loop-at.found.items (c.lent_key.result ∷ [])
    ∙ (λ i. c.loop-at.invariant i ++ (c.lent_key.ensures
    ∙ (λ j. record {
      descending = ap (λ (k : OrderKey). k.descending) c.index-keys-at.is j;
      values = ap (λ (k : KindedValues). k.values) c.index-columns-at.is j;
    })) i ∷ [])
    ∙ sym (keys_in_columns-more c.args.keys.now c.args.columns.now c.loop-at.at key column c.loop-at-test.true
    (omega (arith, c.loop-at-test.true, c.requires)))
