use Rattle.std.proofs.Common.{◌≡◌, Some, length}
use Rattle.pj_value.specs.declared.value.Kind.TheVariants as kinds
use Rattle.pj_expr.specs.Fits.{expr_kind}
use Rattle.pj_block.specs.Blocks.{numbers_of, texts_of}
use Rattle.pj_expr.proofs.FitsLemmas.{other_kind}
use Rattle.pj_block.proofs.RowLemmas.{meets-numbers, meets-texts}
use Rattle.pj_block.proofs.conditions.compare_block.Goals as goal

pub returns-in_ok-second-in-Some-Num : goal.returns-in_ok-second-in-Some-Num
returns-in_ok-second-in-Some-Num c =
    let rows = c.args.rows.now in
    let a = c.args.a.now in
    let b = c.args.b.now in
    let k : expr_kind rows.kinds a ≡ Some kinds.Num = cc in
    let l = other_kind (expr_kind rows.kinds a) (expr_kind rows.kinds b) kinds.Num k c.requires in
    rw (← meets-numbers rows.kinds rows.rows c.kinds.ensures.shape c.args.op a b
    (numbers_of (length rows.rows) c.in_ok-first-in-Some-Num.first)
    (numbers_of (length rows.rows) c.in_ok-second-in-Some-Num.second) k l
    c.in_ok-first-in-Some-Num.ensures c.in_ok-second-in-Some-Num.ensures)
    (rw c.len.ensures at c.compare_numbers.ensures)

pub returns-in-Some-Text : goal.returns-in-Some-Text
returns-in-Some-Text c =
    let rows = c.args.rows.now in
    let a = c.args.a.now in
    let b = c.args.b.now in
    let k : expr_kind rows.kinds a ≡ Some kinds.Text = cc in
    let l = other_kind (expr_kind rows.kinds a) (expr_kind rows.kinds b) kinds.Text k c.requires in
    rw (← meets-texts rows.kinds rows.rows c.kinds.ensures.shape c.args.op a b
    (texts_of (length rows.rows) c.texts_block-first.result)
    (texts_of (length rows.rows) c.texts_block-second.result) k l
    c.texts_block-first.ensures c.texts_block-second.ensures)
    (rw c.len-in-Some-Text.ensures at c.compare_texts.ensures)
