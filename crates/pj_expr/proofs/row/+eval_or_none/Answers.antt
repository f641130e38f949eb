use Rattle.pj_expr.proofs.FitsLemmas.{FitsExpr-Column}
use Rattle.pj_expr.proofs.row.+eval_or_none.Goals as goal

pub cell-requires-clause-column : goal.cell-requires-clause-column
cell-requires-clause-column t c = FitsExpr-Column c.args.rows.now.kinds c.in-Column.column
    (rw c.in-Column.is at c.requires)
