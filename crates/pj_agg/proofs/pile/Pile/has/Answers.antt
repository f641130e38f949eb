use Rattle.std.proofs.Common.{◌≡◌, true, map, take, subst}
use Rattle.pj_value.specs.Aggregates.{has_value}
use Rattle.pj_value.specs.Values.{value_of}
use Rattle.pj_agg.proofs.PileLemmas.{has_value-take}
use Rattle.pj_agg.proofs.pile.Pile.has.Goals as goal

pub returns : goal.returns
returns g c = λ e.
    let value = g.T.Valued.value in
    let v = value_of c.args.cell in
    has_value-take value v c.args.self.now.sorted c.args.self.now.items.items
    (subst (λ xs. has_value v (map value (take c.args.self.now.sorted xs)) ≡ true) c.as_slice.ensures.value
    (c.is_found.ensures e))
