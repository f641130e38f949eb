use Rattle.std.proofs.Common.{ℕ, [], length, get_or}
use Rattle.pj_answer.specs.Answers.{same_row}
use Rattle.pj_block.proofs.IndexLemmas.{indexes-within}
use Rattle.pj_answer.proofs.groups.group_at.Goals as goal

pub gather-requires : goal.gather-requires
gather-requires c =
    let keys = c.args.keys.now.rows in
    let p = λ (k : ℕ). same_row (get_or keys c.args.at []) (get_or keys k []) in
    rw (c.as_slice.ensures.value, c.in_ok-indexes.ensures, ← c.requires.keys) (indexes-within p (length keys))
