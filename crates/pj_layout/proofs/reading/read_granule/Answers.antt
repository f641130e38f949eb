use Rattle.std.proofs.Common.{sym, ◌∙◌, arith}
use Rattle.std.proofs.lemmas.List.{take_rest}
use Rattle.std.proofs.lemmas.Result.{IfOk-weaker}
use Rattle.pj_value.specs.declared.value.Kind.TheVariants as kinds
use Rattle.pj_layout.proofs.ByteLemmas.{AreBytes-by_index}
use Rattle.pj_layout.proofs.ReadingLemmas.{is_granule-read}
use Rattle.pj_layout.proofs.reading.read_granule.Goals as goal

pub returns-in-Num-clause-read : goal.returns-in-Num-clause-read
returns-in-Num-clause-read c =
    let bytes = c.args.bytes.now in
    IfOk-weaker c.number_column.result _ _
    (λ column h.
    is_granule-read c.args.kind kinds.Num c.args.rows bytes _ column c.in-Num.is (take_rest bytes 5)
    (AreBytes-by_index bytes c.type_inv.bytes) (sym c.starts_with_tag.ensures ∙ c.if-not-starts_with_tag.false)
    (sym c.tells_rows.ensures ∙ c.if-not-tells_rows.false) (omega arith) (omega arith) h)
    c.number_column.ensures.read

pub returns-in-Text-clause-read : goal.returns-in-Text-clause-read
returns-in-Text-clause-read c =
    let bytes = c.args.bytes.now in
    IfOk-weaker c.text_column.result _ _
    (λ column h.
    is_granule-read c.args.kind kinds.Text c.args.rows bytes _ column c.in-Text.is (take_rest bytes 5)
    (AreBytes-by_index bytes c.type_inv.bytes) (sym c.starts_with_tag.ensures ∙ c.if-not-starts_with_tag.false)
    (sym c.tells_rows.ensures ∙ c.if-not-tells_rows.false) (omega arith) (omega arith) h)
    c.text_column.ensures.read
