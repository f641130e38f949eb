use Rattle.std.proofs.Common.{[], List, ap}
use Rattle.pj_value.specs.declared.value.Value.{Value}
use Rattle.pj_value.proofs.RowsLemmas.{rows_of-none}
use Rattle.pj_value.proofs.rows.Rows.of_no_columns.Goals as goal

pub returns : goal.returns
returns c =
    rw (c.new.ensures.items, c.new-2.ensures.items)
    (ap (λ (rows : List (List Value)). record { kinds = []; rows = rows }) (rows_of-none c.args.len))
