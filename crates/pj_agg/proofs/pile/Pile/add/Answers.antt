use Rattle.std.proofs.Common.{[], ◌∷◌, ◌++◌, map, refl, ap, ◌∙◌}
use Rattle.std.proofs.lemmas.List.{map-append}
use Rattle.pj_value.specs.Aggregates.{has_value}
use Rattle.pj_value.specs.Values.{value_of}
use Rattle.pj_value.proofs.MemberLemmas.{HaveSameValues-append}
use Rattle.pj_agg.proofs.ListLemmas.{has_value-known}
use Rattle.pj_agg.proofs.pile.Pile.add.Goals as goal

pub returns-then-has-clause-added : goal.returns-then-has-clause-added
returns-then-has-clause-added g c =
    has_value-known (value_of c.args.cell) (map g.T.Valued.value c.args.self.now.items.items)
    (c.has.ensures c.if-has.true)

pub returns-clause-added : goal.returns-clause-added
returns-clause-added g c =
    let value = g.T.Valued.value in
    let v = value_of c.args.cell in
    let settled = c.settle_if_due.new.self.items.items in
    let items = ap (map value) c.in_ok-push.ensures.items ∙ map-append value settled (c.in_ok-item.item ∷ [])
    ∙ ap (λ w. map value settled ++ w ∷ []) c.in_ok-item.ensures in
    λ u. ap (has_value u) items
    ∙ HaveSameValues-append (map value settled) (map value c.args.self.now.items.items) (v ∷ []) (v ∷ [])
    c.settle_if_due.ensures (λ w. refl) u
