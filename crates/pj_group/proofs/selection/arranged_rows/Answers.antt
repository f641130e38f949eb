use Rattle.std.proofs.Common.{length, ◌∙◌}
use Rattle.pj_answer.proofs.AnswerLemmas.{first_within}
use Rattle.pj_group.specs.Indexes.{chosen, outputs_of}
use Rattle.pj_group.proofs.RowLemmas.{arranged-within, answers-indexes}
use Rattle.pj_group.proofs.selection.arranged_rows.Goals as goal

pub outputs-requires-clause-within : goal.outputs-requires-clause-within
outputs-requires-clause-within c =
    let n = length c.args.rows.now.rows in
    let first = c.in_ok-first.ensures in
    rw (c.as_slice-3.ensures.value, first.first)
    (first_within n c.args.query.now.limit first.arrangement
    (arranged-within n c.in_ok-kept.kept.items first.arrangement c.in_ok-kept.ensures.within first.all))

pub returns : goal.returns
returns c =
    let q = c.args.query.now in
    let rows = c.args.rows.now in
    let kept = c.in_ok-kept.kept.items in
    let first = c.in_ok-first.ensures in
    let indexes = c.as_slice-3.ensures.value ∙ first.first in
    let items = c.as_slice-2.ensures in
    answers-indexes q rows c.in_ok-out.out kept first.arrangement c.requires.separate
    c.in_ok-kept.ensures.rows
    (arranged-within (length rows.rows) kept first.arrangement c.in_ok-kept.ensures.within first.all)
    first.all (rw c.as_slice.ensures at first.ordered)
    (c.in_ok-out.ensures ∙ (λ i. outputs_of (chosen rows (indexes i)) (items i)))
