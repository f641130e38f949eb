use Rattle.std.proofs.Common.{ap, ◌∙◌}
use Rattle.pj_value.specs.Rows.{rows_joined}
use Rattle.pj_group.specs.Indexes.{chosen}
use Rattle.pj_group.proofs.ColumnLemmas.{items-lengths, rows_joined-items}
use Rattle.pj_group.proofs.items.outputs.Goals as goal

pub from_columns-requires-clause-lengths : goal.from_columns-requires-clause-lengths
from_columns-requires-clause-lengths c =
    rw c.in_ok-columns.ensures
    (items-lengths (chosen c.args.rows.now c.args.indexes.now) c.args.items.now c.requires.some)

pub returns : goal.returns
returns c =
    c.in_ok-outputs.ensures ∙ ap rows_joined c.in_ok-columns.ensures
    ∙ rows_joined-items (chosen c.args.rows.now c.args.indexes.now) c.args.items.now c.requires.some
