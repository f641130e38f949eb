use Rattle.pj_value.specs.declared.value.Value.TheVariants as values
use Rattle.pj_expr.specs.declared.expr.Expr.TheVariants as exprs
use Rattle.pj_expr.proofs.EvalLemmas.{eval-Num, eval-Text}
use Rattle.pj_expr.proofs.FitsLemmas.{FitsExpr-Column}
use Rattle.pj_group.proofs.ColumnLemmas.{values-literal}
use Rattle.pj_group.proofs.keys.values_of.Goals as goal

pub column-requires : goal.column-requires
column-requires c =
    FitsExpr-Column c.args.rows.now.kinds c.in-Column.at (rw c.in-Column.is at c.requires)

pub returns-in-Num : goal.returns-in-Num
returns-in-Num c =
    let n = c.in-Num.number in
    rw (c.in-Num.is, c.len.ensures)
    (values-literal c.args.rows.now.rows (exprs.Num n) (values.Num n) (λ row. eval-Num row n))

pub returns-in-Text : goal.returns-in-Text
returns-in-Text c =
    let t = c.in-Text.text in
    rw (c.in-Text.is, c.len-in-Text.ensures)
    (values-literal c.args.rows.now.rows (exprs.Text t) (values.Text t) (λ row. eval-Text row t))
