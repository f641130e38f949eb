use Rattle.std.proofs.Common.{ap, sym, ◌∙◌}
use Rattle.pj_value.specs.Rows.{KindedRows}
use Rattle.pj_value.proofs.RowsLemmas.{kinds_of-columns, cut_back, AreColumnsOf-appended, rows_of-appended}
use Rattle.pj_value.proofs.rows.Rows.append.Goals as goal

pub append_columns-requires : goal.append_columns-requires
append_columns-requires c =
    rw c.as_slice.ensures.value
    (kinds_of-columns _ _ _ c.more.invariant
    ∙ ap (λ (r : KindedRows). r.kinds) c.more.view_is
    ∙ c.requires.kinds
    ∙ sym (ap (λ (r : KindedRows). r.kinds) c.self.view_is)
    ∙ sym (kinds_of-columns _ _ _ c.self.invariant))

pub invariant_of-self : goal.invariant_of-self
invariant_of-self c =
    AreColumnsOf-appended _ _ _ _ _ _ _ _ c.self.invariant c.more.invariant
    (ap (λ (r : KindedRows). r.kinds) c.more.view_is ∙ c.requires.kinds
    ∙ sym (ap (λ (r : KindedRows). r.kinds) c.self.view_is))
    (rw c.as_slice.ensures.value at c.in-Ok.ensures.added) (sym c.in-Some.ensures.1)

pub returns-in-Ok-clause-added : goal.returns-in-Ok-clause-added
returns-in-Ok-clause-added c =
    rw (← c.self.view_is, ← c.more.view_is)
    (ap (λ rows. record { kinds = c.self.inside.kinds.items; rows = rows })
    (rows_of-appended _ _ _ _ _ _ _ _ c.self.invariant c.more.invariant
    (ap (λ (r : KindedRows). r.kinds) c.more.view_is ∙ c.requires.kinds
    ∙ sym (ap (λ (r : KindedRows). r.kinds) c.self.view_is))
    (rw c.as_slice.ensures.value at c.in-Ok.ensures.added) (sym c.in-Some.ensures.1)))

pub invariant_of-self-in-Err : goal.invariant_of-self-in-Err
invariant_of-self-in-Err c =
    rw (cut_back _ _ _ _ c.truncate_columns.new.columns.items _ c.self.invariant
    c.append_columns.ensures.part c.truncate_columns.ensures)
    c.self.invariant

pub returns-in-Err-clause-same : goal.returns-in-Err-clause-same
returns-in-Err-clause-same c =
    rw (cut_back _ _ _ _ c.truncate_columns.new.columns.items _ c.self.invariant
    c.append_columns.ensures.part c.truncate_columns.ensures)
    c.self.view_is
