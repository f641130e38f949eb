use Rattle.std.proofs.Common.{◌≡◌, ◌<◌, ◌++◌, length, map, get_or, ap, sym, ◌∙◌, subst}
use Rattle.std.specs.List.{All}
use Rattle.pj_value.specs.Columns.{KindedValues}
use Rattle.pj_value.specs.Rows.{rows_at}
use Rattle.pj_expr.specs.Eval.{eval}
use Rattle.pj_answer.specs.Answers.{Row}
use Rattle.pj_group.proofs.SlotLemmas.{opened-within, rows_at-opened}
use Rattle.pj_group.proofs.slots.add_firsts.Goals as goal

pub eval_at-requires-clause-within : goal.eval_at-requires-clause-within
eval_at-requires-clause-within c =
    let n = length c.args.rows.now.rows in
    let indexes = c.args.kept.now.indexes.items in
    let places = c.args.numbers.now.openings.items in
    let opened : c.as_slice-3.result.now ≡ map (λ at. get_or indexes at 0) places =
    c.as_slice-3.ensures.value ∙ c.in_ok-opened.ensures
    ∙ (λ i. map (λ at. get_or (c.as_slice.ensures.value i) at 0) (c.as_slice-2.ensures.value i)) in
    subst (All (λ at. at < n)) (sym opened)
    (opened-within n indexes places c.requires.kept.within c.requires.opened)

pub returns-clause-values : goal.returns-clause-values
returns-clause-values c =
    let rows = c.args.rows.now.rows in
    let indexes = c.args.kept.now.indexes.items in
    let places = c.args.numbers.now.openings.items in
    let opened : c.as_slice-3.result.now ≡ map (λ at. get_or indexes at 0) places =
    c.as_slice-3.ensures.value ∙ c.in_ok-opened.ensures
    ∙ (λ i. map (λ at. get_or (c.as_slice.ensures.value i) at 0) (c.as_slice-2.ensures.value i)) in
    ap (λ (k : KindedValues). k.values) c.in_ok-join.ensures
    ∙ ap (λ vs. c.args.column.now.values ++ vs)
    (c.in_ok-more.ensures.values
    ∙ ap (λ is. map (λ (row : Row). eval c.args.expr.now row) (rows_at rows is)) opened
    ∙ ap (map (λ (row : Row). eval c.args.expr.now row))
    (rows_at-opened rows indexes places c.requires.opened))
