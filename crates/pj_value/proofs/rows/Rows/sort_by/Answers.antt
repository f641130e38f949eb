use Rattle.std.proofs.Common.{map}
use Rattle.pj_value.specs.Columns.{values_of, rows_of}
use Rattle.pj_value.specs.Layout.{gathered}
use Rattle.pj_value.proofs.GatherLemmas.{All-in_columns, All-below, length-indexes, AreColumnsOf-gathered}
use Rattle.pj_value.proofs.GatherLemmas.{rows_of-gathered, IsSortedBy-indexes}
use Rattle.pj_value.proofs.rows.Rows.sort_by.Goals as goal

pub gather_columns-requires : goal.gather_columns-requires
gather_columns-requires c =
    rw (c.as_slice-2.ensures.value, c.as_slice-3.ensures.value)
    (All-in_columns c.self.inside.len c.self.inside.kinds.items c.self.inside.columns.items
    c.in_ok-indexes.indexes.items c.self.invariant
    (All-below c.self.inside.len c.in_ok-indexes.indexes.items c.in_ok-indexes.ensures.each_once))

pub invariant_of-self : goal.invariant_of-self
invariant_of-self c =
    let ps = c.in_ok-indexes.indexes.items in
    let cs = c.self.inside.columns.items in
    let whole =
    AreColumnsOf-gathered c.self.inside.len c.self.inside.kinds.items cs ps c.self.invariant
    (All-below c.self.inside.len ps c.in_ok-indexes.ensures.each_once) in
    rw (c.in_ok-columns.ensures, c.as_slice-2.ensures.value, c.as_slice-3.ensures.value)
    (rw (length-indexes c.self.inside.len c.in_ok-indexes.indexes.items c.in_ok-indexes.ensures.each_once)
    at whole)

pub returns-clause-sorted : goal.returns-clause-sorted
returns-clause-sorted c =
    let n = c.self.inside.len in
    let ps = c.in_ok-indexes.indexes.items in
    let cs = c.self.inside.columns.items in
    let whole = rows_of-gathered cs n ps (All-below n ps c.in_ok-indexes.ensures.each_once) in
    rw (c.in_ok-columns.ensures, c.as_slice-2.ensures.value, c.as_slice-3.ensures.value, ← c.self.view_is)
    (IsSortedBy-indexes cs c.args.keys.now n ps (rows_of (values_of (map (gathered ps) cs)) n)
    c.in_ok-indexes.ensures.each_once
    (rw c.as_slice.ensures.value at c.in_ok-indexes.ensures.sorted)
    (rw c.as_slice.ensures.value at c.in_ok-indexes.ensures.stable)
    (rw (length-indexes c.self.inside.len c.in_ok-indexes.indexes.items c.in_ok-indexes.ensures.each_once)
    at whole))
