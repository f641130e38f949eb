use Rattle.pj_expr.proofs.FitsLemmas.{FitsExpr-Column}
use Rattle.pj_group.proofs.DenseLemmas.{item_column-column}
use Rattle.pj_group.proofs.dense.column_for.Goals as goal

pub column-requires : goal.column-requires
column-requires c =
    FitsExpr-Column c.args.rows.now.kinds c.in-Column.at (rw c.in-Column.is at c.requires.fits)

pub returns-in-Column : goal.returns-in-Column
returns-in-Column c =
    rw (c.in-Column.is, c.column.ensures)
    (item_column-column c.args.rows.now c.in-Column.at c.args.kept.now.indexes.items
    (c.requires.kept.whole c.if-kept.true))
