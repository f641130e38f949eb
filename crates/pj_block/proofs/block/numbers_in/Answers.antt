use Rattle.std.proofs.Common.{◌≡◌, sym, ap, ◌∙◌}
use Rattle.pj_value.specs.declared.value.Kind.TheVariants as kinds
use Rattle.pj_value.specs.Columns.{KindedValues}
use Rattle.pj_expr.proofs.FitsLemmas.{FitsExpr-Column, column_kind}
use Rattle.pj_block.proofs.RowLemmas.{numbers-Column}
use Rattle.pj_block.proofs.block.numbers_in.Goals as goal

pub column-requires : goal.column-requires
column-requires c = FitsExpr-Column c.args.rows.now.kinds c.args.column (kinds.Num, c.requires)

pub unreachable-requires : goal.unreachable-requires
unreachable-requires c =
    let e : kinds.Num ≡ kinds.Text =
    sym (column_kind c.args.rows.now.kinds c.args.column kinds.Num c.requires)
    ∙ ap (λ (k : KindedValues). k.kind) (sym c.column.ensures) ∙ c.in-None.ensures in
    (cc)

pub returns : goal.returns
returns c =
    numbers-Column c.args.rows.now.rows c.args.column c.in-Some.numbers.now
    (ap (λ (k : KindedValues). k.values) (sym c.column.ensures ∙ c.in-Some.ensures))
