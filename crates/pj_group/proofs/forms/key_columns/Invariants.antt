use Rattle.std.proofs.Common.{◌≡◌, map, take}
use Rattle.pj_expr.specs.declared.query.Item.TheVariants.{Plain}
use Rattle.pj_group.specs.Dense.{dense_column}
use Rattle.pj_group.specs.Indexes.{item_column, chosen}
use Rattle.pj_group.proofs.forms.key_columns.Given as goal

abbrev pub invariant-loop-expr : goal.invariant-loop-expr
invariant-loop-expr l =
    map dense_column l.columns.items
    ≡ map (λ e. item_column (chosen l.rows l.kept.indexes.items) (Plain e)) (take l.expr-index l.exprs)
