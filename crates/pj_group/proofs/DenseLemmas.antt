-- Columns of the rows that are kept, where these are all rows.
use Rattle.std.proofs.Common.{◌≡◌, ℕ, zero, suc, List, [], ◌∷◌, length, map, get_or}
use Rattle.std.proofs.Common.{refl, sym, ap, ◌∙◌}
use Rattle.std.specs.List.{range_with_len}
use Rattle.std.specs.Prelude.{slice_get}
use Rattle.pj_value.specs.declared.value.Kind.{Kind}
use Rattle.pj_value.specs.declared.value.Kind.TheVariants as kinds
use Rattle.pj_value.specs.Rows.{KindedRows, rows_at, column_of, value_in}
use Rattle.pj_expr.specs.declared.expr.Expr.TheVariants as exprs
use Rattle.pj_expr.specs.declared.query.Item.TheVariants.{Plain}
use Rattle.pj_expr.specs.Eval.{eval}
use Rattle.pj_expr.specs.Fits.{expr_kind}
use Rattle.pj_expr.proofs.EvalLemmas.{eval-Column}
use Rattle.pj_expr.proofs.FitsLemmas.{expr_kind-Column}
use Rattle.pj_answer.specs.Answers.{Row, or_number}
use Rattle.pj_group.specs.Indexes.{item_column, chosen}
use Rattle.pj_group.proofs.RowLemmas.{rows_at-all, kept-all}

-- the kind at an index, and that of numbers where there is none
or_number-slice_get : (ks : List Kind) (at : ℕ) → get_or ks at kinds.Num ≡ or_number (slice_get ks at)
or_number-slice_get [] at = refl
or_number-slice_get (k ∷ ks) zero = refl
or_number-slice_get (k ∷ ks) (suc at) = or_number-slice_get ks at

-- the value of a column for each row
values-column : (rows : List Row) (at : ℕ)
    → map (λ row. value_in row at) rows ≡ map (λ row. eval (exprs.Column at) row) rows
values-column [] at = refl
values-column (row ∷ rows) at = λ i. sym (eval-Column row at) i ∷ values-column rows at i

-- a column of the table is what it gives for all rows
pub item_column-column : (rows : KindedRows) (at : ℕ) (indexes : List ℕ)
    → indexes ≡ range_with_len 0 (length rows.rows)
    → column_of rows at ≡ item_column (chosen rows indexes) (Plain (exprs.Column at))
item_column-column rows at indexes e = λ i. record { kind = kind i; values = vs i }
  where
    all : rows.rows ≡ rows_at rows.rows indexes
    all = kept-all rows.rows ∙ sym (rows_at-all rows.rows) ∙ ap (rows_at rows.rows) (sym e)

    kind : get_or rows.kinds at kinds.Num ≡ or_number (expr_kind rows.kinds (exprs.Column at))
    kind = or_number-slice_get rows.kinds at ∙ sym (ap or_number (expr_kind-Column rows.kinds at))

    vs : map (λ row. value_in row at) rows.rows
        ≡ map (λ row. eval (exprs.Column at) row) (rows_at rows.rows indexes)
    vs =
        values-column rows.rows at ∙ ap (map (λ (row : Row). eval (exprs.Column at) row)) all
