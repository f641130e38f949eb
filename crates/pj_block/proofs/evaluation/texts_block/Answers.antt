use Rattle.std.proofs.Common.{◌≡◌, sym, ap, ◌∙◌}
use Rattle.pj_value.specs.declared.value.Kind.TheVariants as kinds
use Rattle.pj_value.specs.Columns.{KindedValues}
use Rattle.pj_expr.proofs.FitsLemmas.{FitsExpr-Column, column_kind}
use Rattle.pj_block.proofs.RowLemmas.{texts-Column, texts-Text}
use Rattle.pj_block.proofs.evaluation.texts_block.Goals as goal

pub column-requires : goal.column-requires
column-requires c =
    FitsExpr-Column c.args.rows.now.kinds c.in-Column.at (kinds.Text, rw c.in-Column.is at c.requires)

pub unreachable-requires : goal.unreachable-requires
unreachable-requires c =
    let e : kinds.Text ≡ kinds.Num =
    sym (column_kind c.args.rows.now.kinds c.in-Column.at kinds.Text (rw c.in-Column.is at c.requires))
    ∙ ap (λ (k : KindedValues). k.kind) (sym c.column.ensures) ∙ c.in-None.ensures in
    (cc)

pub returns-in-Some : goal.returns-in-Some
returns-in-Some c =
    rw c.in-Column.is
    (texts-Column c.args.rows.now.rows c.in-Column.at c.in-Some.texts.now
    (ap (λ (k : KindedValues). k.values) (sym c.column.ensures ∙ c.in-Some.ensures)))

pub returns-in-Text : goal.returns-in-Text
returns-in-Text c = rw c.in-Text.is (texts-Text c.args.rows.now.rows c.in-Text.text)
