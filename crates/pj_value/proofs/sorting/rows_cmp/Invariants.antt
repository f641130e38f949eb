use Rattle.std.proofs.Common.{◌≡◌, drop}
use Rattle.pj_value.specs.Columns.{values_of, row_at}
use Rattle.pj_value.specs.Order.{key_cmp}
use Rattle.pj_value.proofs.sorting.rows_cmp.Given as goal

abbrev pub invariant-keys : goal.invariant-keys
invariant-keys l =
    key_cmp l.keys (row_at (values_of l.columns) l.a) (row_at (values_of l.columns) l.b) ≡ key_cmp
    (drop l.key-index l.keys) (row_at (values_of l.columns) l.a) (row_at (values_of l.columns) l.b)
