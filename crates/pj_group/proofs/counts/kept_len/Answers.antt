use Rattle.std.proofs.Common.{length, map, ap, sym, ◌∙◌}
use Rattle.std.specs.List.{count_by}
use Rattle.std.proofs.lemmas.List.Sums.{length-filter}
use Rattle.pj_expr.specs.Eval.{holds}
use Rattle.pj_group.proofs.CountLemmas.{filter-tests}
use Rattle.pj_group.proofs.RowLemmas.{kept-all}
use Rattle.pj_group.proofs.counts.kept_len.Goals as goal

pub returns-in-All : goal.returns-in-All
returns-in-All c = rw c.in-All.is (c.len.ensures ∙ ap length (kept-all c.args.rows.now.rows))

pub returns-in_ok-held-in_default : goal.returns-in_ok-held-in_default
returns-in_ok-held-in_default c =
    let p = holds c.args.cond.now in
    let rows = c.args.rows.now.rows in
    c.true_len.ensures ∙ ap (count_by (λ b. b)) (c.as_slice.ensures.value ∙ c.in_ok-held-in_default.ensures)
    ∙ sym (length-filter (λ b. b) (map p rows)) ∙ filter-tests p rows
