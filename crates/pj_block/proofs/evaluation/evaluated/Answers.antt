use Rattle.std.proofs.Common.{◌≡◌, Some, map, ap, ◌∙◌}
use Rattle.pj_value.specs.declared.value.Kind.TheVariants as kinds
use Rattle.pj_value.specs.Columns.{KindedValues}
use Rattle.pj_expr.specs.Fits.{expr_kind}
use Rattle.pj_block.specs.Blocks.{block_kinds, block_rows}
use Rattle.pj_block.proofs.RowLemmas.{number_at, values-numbers}
use Rattle.pj_block.proofs.evaluation.evaluated.Goals as goal

pub returns-in_ok-into_vec-in-Some-Num-clause-values : goal.returns-in_ok-into_vec-in-Some-Num-clause-values
returns-in_ok-into_vec-in-Some-Num-clause-values c =
    let columns = block_kinds c.args.block in
    let rows = block_rows c.args.block in
    let e = c.args.expr.now in
    let k : expr_kind columns e ≡ Some kinds.Num = cc in
    let ns = c.in_ok-into_vec-in-Some-Num.field-0.items in
    let h : ns ≡ map (number_at e) rows =
    (rw c.len.ensures at c.in_ok-into_vec-in-Some-Num.ensures) ∙ c.in_ok-numbers-in-Some-Num.ensures in
    ap (λ (v : KindedValues). v.values) c.from_numbers.ensures
    ∙ values-numbers columns rows c.kinds.ensures.shape e ns k h
