use Rattle.std.proofs.Common.{◌<◌, ap}
use Rattle.std.specs.List.{All}
use Rattle.pj_value.specs.Columns.{values_of}
use Rattle.pj_value.proofs.RowsLemmas.{length-rows_of}
use Rattle.pj_value.proofs.GatherLemmas.{All-in_columns, AreColumnsOf-gathered, rows_of-gathered}
use Rattle.pj_value.proofs.rows.Rows.gather.Goals as goal

pub gather_columns-requires : goal.gather_columns-requires
gather_columns-requires c =
    let p : All (λ at. at < c.self.inside.len) c.args.indexes.now =
    rw (← c.self.view_is, length-rows_of (values_of c.self.inside.columns.items) c.self.inside.len)
    at c.requires in
    rw c.as_slice-2.ensures.value
    (All-in_columns c.self.inside.len c.self.inside.kinds.items c.self.inside.columns.items c.args.indexes.now
    c.self.invariant p)

pub invariant_of-result : goal.invariant_of-result
invariant_of-result c =
    let p : All (λ at. at < c.self.inside.len) c.args.indexes.now =
    rw (← c.self.view_is, length-rows_of (values_of c.self.inside.columns.items) c.self.inside.len)
    at c.requires in
    rw (
      c.in_ok-from_slice.ensures.items,
      c.as_slice.ensures.value,
      c.in_ok-gather_columns.ensures,
      c.as_slice-2.ensures.value,
    )
    (AreColumnsOf-gathered c.self.inside.len c.self.inside.kinds.items c.self.inside.columns.items
    c.args.indexes.now c.self.invariant p)

pub returns : goal.returns
returns c =
    let p : All (λ at. at < c.self.inside.len) c.args.indexes.now =
    rw (← c.self.view_is, length-rows_of (values_of c.self.inside.columns.items) c.self.inside.len)
    at c.requires in
    rw (
      c.in_ok-from_slice.ensures.items,
      c.as_slice.ensures.value,
      c.in_ok-gather_columns.ensures,
      c.as_slice-2.ensures.value,
      ← c.self.view_is,
    )
    (ap (λ rows. record { kinds = c.self.inside.kinds.items; rows = rows })
    (rows_of-gathered c.self.inside.columns.items c.self.inside.len c.args.indexes.now p))
