use Rattle.pj_group.specs.Indexes.{chosen}
use Rattle.pj_group.proofs.ColumnLemmas.{item_column-computed}
use Rattle.pj_group.proofs.items.evaluated.Goals as goal

pub returns : goal.returns
returns c =
    item_column-computed (chosen c.args.rows.now c.args.indexes.now) c.args.expr.now c.in_ok-column.column
    c.in_ok-column.ensures.kind c.in_ok-column.ensures.values
