use Rattle.std.proofs.Common.{ℕ, ◌<◌, [], length, get_or, ap, ◌∙◌}
use Rattle.std.specs.List.{filter, range_with_len}
use Rattle.std.proofs.lemmas.List.Elements.{All-same}
use Rattle.pj_value.specs.Rows.{rows_at}
use Rattle.pj_expr.specs.Eval.{holds}
use Rattle.pj_block.proofs.IndexLemmas.{indexes-map, indexes-within, kept-indexes}
use Rattle.pj_block.proofs.conditions.kept.Goals as goal

pub returns-clause-indexes : goal.returns-clause-indexes
returns-clause-indexes c =
    c.in_ok-indexes.ensures
    ∙ indexes-map (holds c.args.cond.now) c.args.rows.now.rows [] c.as_slice.result.now
    (c.as_slice.ensures.value ∙ c.in_ok-held.ensures)

pub returns-clause-within : goal.returns-clause-within
returns-clause-within c =
    let rows = c.args.rows.now.rows in
    let p = λ (at : ℕ). holds c.args.cond.now (get_or rows at []) in
    All-same (λ at. at < length rows) c.in_ok-indexes.indexes.items (filter p (range_with_len 0
    (length rows)))
    (returns-clause-indexes c) (indexes-within p (length rows))

pub returns-clause-rows : goal.returns-clause-rows
returns-clause-rows c =
    let rows = c.args.rows.now.rows in
    ap (rows_at rows) (returns-clause-indexes c) ∙ kept-indexes (holds c.args.cond.now) [] rows
