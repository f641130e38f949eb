use Rattle.std.proofs.Common.{ap, sym, ◌∙◌}
use Rattle.pj_value.proofs.RowsLemmas.{kinds_of-columns, cut_back, AreColumnsOf-pushed, rows_of-pushed}
use Rattle.pj_value.proofs.rows.Rows.push.Goals as goal

pub push_row-requires : goal.push_row-requires
push_row-requires c =
    c.fits.ensures.0 c.if-not-fits.false ∙ c.as_slice.ensures.value
    ∙ sym (kinds_of-columns _ _ _ c.self.invariant)

pub invariant_of-self : goal.invariant_of-self
invariant_of-self c =
    AreColumnsOf-pushed _ _ _ _ _ c.args.row.now c.self.invariant
    (c.fits.ensures.0 c.if-not-fits.false ∙ c.as_slice.ensures.value)
    c.in-Ok.ensures.added (sym c.in-Some.ensures.1)

pub returns-in-Ok-clause-added : goal.returns-in-Ok-clause-added
returns-in-Ok-clause-added c =
    rw (← c.self.view_is)
    (ap (λ rows. record { kinds = c.self.inside.kinds.items; rows = rows })
    (rows_of-pushed _ _ _ _ _ c.args.row.now c.self.invariant
    (c.fits.ensures.0 c.if-not-fits.false ∙ c.as_slice.ensures.value)
    c.in-Ok.ensures.added (sym c.in-Some.ensures.1)))

pub invariant_of-self-in-Err : goal.invariant_of-self-in-Err
invariant_of-self-in-Err c =
    rw (cut_back _ _ _ _ c.truncate_columns.new.columns.items _ c.self.invariant
    c.push_row.ensures.part c.truncate_columns.ensures)
    c.self.invariant

pub returns-in-Err-clause-same : goal.returns-in-Err-clause-same
returns-in-Err-clause-same c =
    rw (cut_back _ _ _ _ c.truncate_columns.new.columns.items _ c.self.invariant
    c.push_row.ensures.part c.truncate_columns.ensures)
    c.self.view_is
