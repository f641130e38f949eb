use Rattle.std.proofs.Common.{ap, ◌∙◌}
use Rattle.pj_value.specs.declared.value.Kind.TheVariants as kinds
use Rattle.pj_value.specs.Columns.{KindedValues}
use Rattle.pj_block.specs.Blocks.{block_kinds, block_rows}
use Rattle.pj_expr.proofs.FitsLemmas.{FitsExpr-Column, column_kind}
use Rattle.pj_block.proofs.ColumnLemmas.{values-Text}
use Rattle.pj_block.proofs.evaluation.text_column.Goals as goal

pub column-requires-clause-there : goal.column-requires-clause-there
column-requires-clause-there c =
    FitsExpr-Column (block_kinds c.args.block) c.in-Column.at
    (kinds.Text, rw c.in-Column.is at c.requires.kind)

pub returns-in_ok-column-in-Column-clause-kind : goal.returns-in_ok-column-in-Column-clause-kind
returns-in_ok-column-in-Column-clause-kind c =
    c.in_ok-column-in-Column.ensures.kind
    ∙ column_kind (block_kinds c.args.block) c.in-Column.at kinds.Text (rw c.in-Column.is at c.requires.kind)

pub returns-in_ok-repeated-in-Text-clause-values : goal.returns-in_ok-repeated-in-Text-clause-values
returns-in_ok-repeated-in-Text-clause-values c =
    rw c.in-Text.is
    (ap (λ (k : KindedValues). k.values) c.from_texts.ensures
    ∙ values-Text (block_rows c.args.block) c.in-Text.text c.in_ok-repeated-in-Text.field-0.items
    (rw c.len.ensures at c.in_ok-repeated-in-Text.ensures))
