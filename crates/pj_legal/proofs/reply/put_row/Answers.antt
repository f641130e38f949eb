use Rattle.std.proofs.Common.{◌≡◌, [], ◌++◌, ◌∷◌, ◌-◌, length, get_or, suc, ◌∙◌, ap, arith}
use Rattle.pj_value.specs.declared.value.Value.{Value}
use Rattle.pj_legal.specs.Texts.{value_text}
use Rattle.pj_legal.proofs.texts.RowTexts.{length-row, row_text-ended}
use Rattle.pj_legal.proofs.reply.put_row.Goals as goal

pub returns : goal.returns
returns c =
    let rows = c.args.rows.now in
    let row = get_or rows.rows c.args.row [] in
    let last = length c.kinds-columns.result.now - 1 in
    let here : c.columns.column ≡ last = omega (arith, c.columns-test.false, c.columns.auto.column-end) in
    let wide : length row ≡ length rows.kinds =
    length-row rows.kinds rows.rows c.args.row c.kinds-columns.ensures.shape c.requires in
    let all : length row ≡ suc last =
    omega (arith, wide, c.if-columns-eq0.false, ap length c.kinds-columns.ensures.kinds) in
    row_text-ended c.args.out.now.items c.columns.out.items _ row last all (rw here at c.columns.invariant)
    (c.in_ok-put_cell-2.ensures
    ∙ ap (λ (v : Value). c.columns.out.items ++ (value_text v ++ 10 ∷ [])) c.cell-2.ensures)
