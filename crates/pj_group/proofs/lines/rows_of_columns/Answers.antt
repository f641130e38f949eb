use Rattle.std.proofs.Common.{◌≡◌, [], sym, ap, ◌∙◌}
use Rattle.pj_value.proofs.RowsLemmas.{rows_of-none}
use Rattle.pj_group.specs.Lines.{rows_in_columns}
use Rattle.pj_group.proofs.HeldLemmas.{no_elements}
use Rattle.pj_group.proofs.lines.rows_of_columns.Goals as goal

pub returns-then-is_empty : goal.returns-then-is_empty
returns-then-is_empty c =
    let none : c.args.columns.items ≡ [] =
    sym c.as_slice.ensures.value ∙ no_elements c.as_slice.result.now (sym c.is_empty.ensures ∙ c.if-is_empty.true) in
    c.of_no_columns.ensures
    ∙ (λ i. record { kinds = []; rows = sym (rows_of-none c.args.len) i })
    ∙ ap (λ columns. rows_in_columns columns c.args.len) (sym none)
