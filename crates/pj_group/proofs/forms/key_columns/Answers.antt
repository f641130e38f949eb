use Rattle.std.proofs.Common.{map, ap, sym, ◌∙◌, subst}
use Rattle.pj_value.specs.Columns.{KindedValues}
use Rattle.pj_expr.specs.declared.expr.Expr.{Expr}
use Rattle.pj_expr.specs.declared.query.Item.TheVariants.{Plain}
use Rattle.pj_expr.specs.Fits.{FitsExpr}
use Rattle.pj_group.specs.Dense.{dense_column}
use Rattle.pj_group.specs.Indexes.{item_column, chosen}
use Rattle.pj_group.proofs.HeldLemmas.{map-more}
use Rattle.pj_group.proofs.forms.key_columns.Goals as goal

pub column_for-requires-clause-fits : goal.column_for-requires-clause-fits
column_for-requires-clause-fits c =
    subst (FitsExpr c.args.rows.now.kinds) (sym c.expr-item.is)
    (c.requires.fits c.loop-expr.expr-index c.expr-item.result c.loop-expr-test.true)

pub loop-expr-preserved : goal.loop-expr-preserved
loop-expr-preserved c =
    let column : Expr → KindedValues = λ e. item_column (chosen c.args.rows.now c.args.kept.now.indexes.items) (Plain e) in
    ap (map dense_column) c.in_ok-push.ensures.items
    ∙ map-more dense_column column c.loop-expr.columns.items c.in_ok-column_for.field-0 c.args.exprs.now
    c.loop-expr.expr-index c.expr-item.result c.loop-expr.invariant
    (c.in_ok-column_for.ensures ∙ ap column c.expr-item.is) c.loop-expr-test.true
