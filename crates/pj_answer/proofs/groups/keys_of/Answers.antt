use Rattle.std.proofs.Common.{ap, ◌∙◌}
use Rattle.pj_value.specs.Rows.{KindedRows}
use Rattle.pj_answer.proofs.KeyLemmas.{keys-lengths, rows_joined-keys}
use Rattle.pj_answer.proofs.groups.keys_of.Goals as goal

pub from_columns-requires-clause-lengths : goal.from_columns-requires-clause-lengths
from_columns-requires-clause-lengths c =
    keys-lengths c.args.held.now.rows c.args.exprs.now c.in_ok-columns.columns.items c.requires.some
    c.in_ok-columns.ensures

pub returns : goal.returns
returns c =
    ap (λ (r : KindedRows). r.rows) c.in_ok-keys.ensures
    ∙ rows_joined-keys c.args.held.now.rows c.args.exprs.now c.in_ok-columns.columns.items c.requires.some
    c.in_ok-columns.ensures
