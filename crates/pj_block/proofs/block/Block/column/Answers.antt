use Rattle.std.proofs.Common.{ap, ◌∙◌}
use Rattle.pj_value.specs.Columns.{KindedValues, values_at}
use Rattle.pj_block.proofs.ColumnLemmas.{values-Column, values_at-Column}
use Rattle.pj_block.proofs.block.Block.column.Goals as goal

pub returns-in_ok-copy-in-All-clause-values : goal.returns-in_ok-copy-in-All-clause-values
returns-in_ok-copy-in-All-clause-values c =
    rw c.in-All.is
    (ap (λ (k : KindedValues). k.values) (c.in_ok-copy-in-All.ensures ∙ c.column.ensures)
    ∙ values-Column c.in-All.rows.now.rows c.args.column)

pub returns-in_ok-copy-in-At-clause-values : goal.returns-in_ok-copy-in-At-clause-values
returns-in_ok-copy-in-At-clause-values c =
    let indexes = c.in-At.indexes.now in
    rw c.in-At.is
    (ap (λ (k : KindedValues). k.values) c.in_ok-copy-in-At.ensures
    ∙ ap (λ (k : KindedValues). values_at k.values indexes) c.column-in-At.ensures
    ∙ values_at-Column c.in-At.rows.now.rows indexes c.args.column)
