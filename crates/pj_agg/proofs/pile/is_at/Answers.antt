use Rattle.std.proofs.Common.{◌≡◌, true, sym, ap, subst, ◌∙◌}
use Rattle.std.specs.Ordering.{is_eq}
use Rattle.pj_value.specs.Values.{value_of}
use Rattle.pj_value.specs.Order.{value_cmp}
use Rattle.pj_agg.proofs.PileLemmas.{found-there}
use Rattle.pj_agg.proofs.pile.is_at.Goals as goal

pub returns-then-at-items : goal.returns-then-at-items
returns-then-at-items g c = λ e.
    let value = g.T.Valued.value in
    let v = value_of c.args.cell in
    found-there value v c.args.items.now c.args.at c.index-items-at.result c.if-at-items.true c.index-items-at.is
    (ap (λ w. is_eq (value_cmp w v)) (sym c.as_cell.ensures) ∙ ap is_eq (sym c.cell_cmp.ensures)
    ∙ sym c.is_eq.ensures ∙ e)
