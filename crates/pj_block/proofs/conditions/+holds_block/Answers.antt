use Rattle.std.proofs.Common.{◌∙◌}
use Rattle.pj_block.proofs.RowLemmas.{held-All, held-And, held-Or, held-Not}
use Rattle.pj_block.proofs.conditions.+holds_block.Goals as goal

pub returns-in-All : goal.returns-in-All
returns-in-All t c =
    rw (c.in-All.is, ← held-All c.args.rows.now.rows) (rw c.len.ensures at c.filled.ensures)

pub returns-in_ok-other-in-And : goal.returns-in_ok-other-in-And
returns-in_ok-other-in-And t c =
    rw c.in-And.is
    ((rw c.as_slice.ensures.value at c.both.ensures)
    ∙ held-And c.args.rows.now.rows c.in-And.a c.in-And.b c.in_ok-held-in-And.held.items
    c.in_ok-other-in-And.other.items
    (rw c.get.ensures at c.in_ok-held-in-And.ensures)
    (rw c.get-in-And.ensures at c.in_ok-other-in-And.ensures))

pub returns-in_ok-other-in-Or : goal.returns-in_ok-other-in-Or
returns-in_ok-other-in-Or t c =
    rw c.in-Or.is
    ((rw c.as_slice-in-Or.ensures.value at c.either.ensures)
    ∙ held-Or c.args.rows.now.rows c.in-Or.a c.in-Or.b c.in_ok-held-in-Or.held.items
    c.in_ok-other-in-Or.other.items
    (rw c.get-in-Or.ensures at c.in_ok-held-in-Or.ensures)
    (rw c.get-in-Or-2.ensures at c.in_ok-other-in-Or.ensures))

pub returns-in_ok-held-in-Not : goal.returns-in_ok-held-in-Not
returns-in_ok-held-in-Not t c =
    rw c.in-Not.is
    (c.opposite.ensures
    ∙ held-Not c.args.rows.now.rows c.in-Not.a c.in_ok-held-in-Not.held.items
    (rw c.get-in-Not.ensures at c.in_ok-held-in-Not.ensures))
