use Rattle.std.proofs.Common.{arith, sym, length-drop}
use Rattle.pj_grammar.proofs.RowLayoutLemmas.{row_at_place}
use Rattle.pj_grammar.proofs.value_rows.row_of.Goals as goal

pub split_at-requires : goal.split_at-requires
split_at-requires c =
    let r = row_at_place c.args.values.now 0 c.args.ends.now c.args.at c.requires.ends c.requires.at in
    rw c.begin_of-begin.ensures (omega (arith, r.order, r.within))

pub overflow_sub-ends : goal.overflow_sub-ends
overflow_sub-ends c =
    let r = row_at_place c.args.values.now 0 c.args.ends.now c.args.at c.requires.ends c.requires.at in
    rw c.begin_of-begin.ensures r.order

pub split_at-requires-2 : goal.split_at-requires-2
split_at-requires-2 c =
    let r = row_at_place c.args.values.now 0 c.args.ends.now c.args.at c.requires.ends c.requires.at in
    rw (
      c.split_at.ensures.back,
      length-drop c.begin_of-begin.result c.args.values.now,
      c.begin_of-begin.ensures,
    )
    (omega (arith, r.order, r.within))

pub returns : goal.returns
returns c =
    let r = row_at_place c.args.values.now 0 c.args.ends.now c.args.at c.requires.ends c.requires.at in
    rw (c.split_at-2.ensures.front, c.split_at.ensures.back, c.begin_of-begin.ensures) (sym r.row)
