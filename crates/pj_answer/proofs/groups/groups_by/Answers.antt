use Rattle.std.proofs.Common.{ℕ, not, length, map, ap, ◌∙◌}
use Rattle.pj_answer.specs.Groups.{comes_again, last_indexes, group_like}
use Rattle.pj_block.proofs.IndexLemmas.{indexes-within}
use Rattle.pj_answer.proofs.KeyLemmas.{groups_by-indexes}
use Rattle.pj_answer.proofs.groups.groups_by.Goals as goal

pub groups_at-requires-clause-within : goal.groups_at-requires-clause-within
groups_at-requires-clause-within c =
    let keys = c.in_ok-keys.keys.rows in
    rw (c.as_slice.ensures.value, c.in_ok-last.ensures)
    (indexes-within (λ (at : ℕ). not (comes_again keys at)) (length keys))

pub returns : goal.returns
returns c =
    let held = c.args.held.now in
    c.in_ok-groups.ensures
    ∙ ap (map (group_like held c.in_ok-keys.keys.rows)) (c.as_slice.ensures.value ∙ c.in_ok-last.ensures)
    ∙ (λ i. map (group_like held (c.in_ok-keys.ensures i)) (last_indexes (c.in_ok-keys.ensures i)))
    ∙ groups_by-indexes c.args.exprs.now held
