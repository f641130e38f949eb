use Rattle.std.proofs.Common.{◌≤◌, length, ap, sym, arith}
use Rattle.std.proofs.lemmas.List.{take_all}
use Rattle.pj_value.specs.Rows.{KindedRows}
use Rattle.pj_value.specs.Columns.{values_of}
use Rattle.pj_value.proofs.RowsLemmas.{length-rows_of}
use Rattle.pj_value.proofs.GatherLemmas.{AreColumnsOf-truncated, rows_of-truncated}
use Rattle.pj_value.proofs.rows.Rows.truncate.Goals as goal

pub invariant_of-self : goal.invariant_of-self
invariant_of-self c =
    rw c.truncate_columns.ensures
    (AreColumnsOf-truncated c.self.inside.len c.args.len c.self.inside.kinds.items c.self.inside.columns.items
    c.self.invariant (omega arith))

pub returns-then-len-self : goal.returns-then-len-self
returns-then-len-self c =
    rw (c.truncate_columns.ensures, ← c.self.view_is)
    (ap (λ rows. record { kinds = c.self.inside.kinds.items; rows = rows })
    (rows_of-truncated c.self.inside.columns.items c.self.inside.len c.args.len (omega arith)))

pub returns-else-len-self : goal.returns-else-len-self
returns-else-len-self c =
    let all : length c.args.self.now.rows ≤ c.args.len =
    omega (
      arith,
      ap (λ (r : KindedRows). length r.rows) c.self.view_is,
      length-rows_of (values_of c.self.inside.columns.items) c.self.inside.len,
    ) in
    ap (λ rows. record { kinds = c.args.self.now.kinds; rows = rows })
    (sym (take_all c.args.len c.args.self.now.rows all))
