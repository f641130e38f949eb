-- The columns of rows, and of rows at indexes.
use Rattle.std.proofs.Common.{◌≡◌, ℕ, zero, suc, ◌<◌, List, [], ◌∷◌, length, map, get_or, replicate}
use Rattle.std.proofs.Common.{refl, sym, ap, ◌∙◌, arith}
use Rattle.std.specs.List.{All}
use Rattle.std.proofs.lemmas.List.Elements.{All-head, All-tail}
use Rattle.std.proofs.lemmas.Simd.{map-map, splat_is_map}
use Rattle.pj_value.specs.declared.value.Kind.{Kind}
use Rattle.pj_value.specs.declared.value.Value.{Value}
use Rattle.pj_value.specs.declared.value.Value.TheVariants as values
use Rattle.pj_value.specs.Aggregates.{number_in}
use Rattle.pj_value.specs.Values.{kind_of}
use Rattle.pj_value.specs.Columns.{values_at}
use Rattle.pj_value.specs.Rows.{HaveKinds, value_in, rows_at}
use Rattle.pj_expr.specs.declared.expr.Expr.TheVariants as exprs
use Rattle.pj_expr.specs.Eval.{eval}
use Rattle.pj_expr.proofs.EvalLemmas.{eval-Column, eval-Text}
use Rattle.pj_block.proofs.RowLemmas.{get_or-map_all, map-same, number_at}

module _ (rows : List (List Value)) where
  -- the values of a column
  pub values-Column : (c : ℕ) → map (λ row. value_in row c) rows ≡ map (λ row. eval (exprs.Column c) row) rows
  values-Column c = map-same _ _ rows (λ row. sym (eval-Column row c))

  -- a text for each row
  pub values-Text : (t : List ℕ) (ts : List (List ℕ)) → ts ≡ replicate (length rows) t
      → map (λ s. values.Text s) ts ≡ map (λ row. eval (exprs.Text t) row) rows
  values-Text t ts e =
      ap (map (λ s. values.Text s)) (e ∙ splat_is_map rows (length rows) t refl)
      ∙ map-map (λ s. values.Text s) (λ (row : List Value). t) rows
      ∙ map-same _ _ rows (λ row. sym (eval-Text row t))

  -- its numbers at indexes
  pub numbers_at-Column : (indexes : List ℕ) (c : ℕ) (ns : List ℕ)
      → ns ≡ map (number_at (exprs.Column c)) rows
      → map (λ k. get_or ns k 0) indexes ≡ map (number_at (exprs.Column c)) (rows_at rows indexes)
  numbers_at-Column indexes c ns e =
      ap (λ (ms : List ℕ). map (λ k. get_or ms k 0) indexes) e ∙ map-same _ _ indexes here
      ∙ sym (map-map (number_at (exprs.Column c)) (λ k. get_or rows k []) indexes)
    where
      none : number_at (exprs.Column c) [] ≡ 0
      none = ap number_in (eval-Column [] c)

      here : (k : ℕ) → get_or (map (number_at (exprs.Column c)) rows) k 0
          ≡ number_at (exprs.Column c) (get_or rows k [])
      here k =
          ap (λ d. get_or (map (number_at (exprs.Column c)) rows) k d) (sym none)
          ∙ get_or-map_all (number_at (exprs.Column c)) rows k []

  -- the kinds of a row
  kinds_at : (columns : List Kind) (k : ℕ) → HaveKinds columns rows → k < length rows
      → map kind_of (get_or rows k []) ≡ columns
  kinds_at columns k shape l = by rows k shape l
    where
      by : (rs : List (List Value)) (k : ℕ) → HaveKinds columns rs → k < length rs
          → map kind_of (get_or rs k []) ≡ columns
      by [] k h l = absurd (omega arith)
      by (r ∷ rs) zero h l = h.0
      by (r ∷ rs) (suc k) h l = by rs k h.1 (omega arith)

  -- the rows at indexes are of the same kinds
  pub HaveKinds-at : (columns : List Kind) (indexes : List ℕ) → HaveKinds columns rows
      → All (λ at. at < length rows) indexes → HaveKinds columns (rows_at rows indexes)
  HaveKinds-at columns [] shape a = tt
  HaveKinds-at columns (k ∷ ks) shape a = (
    kinds_at columns k shape (All-head (λ at. at < length rows) k ks a),
    HaveKinds-at columns ks shape (All-tail (λ at. at < length rows) k ks a),
  )

-- the values of a column at indexes
pub values_at-Column : (rows : List (List Value)) (indexes : List ℕ) (c : ℕ)
    → values_at (map (λ row. value_in row c) rows) indexes
    ≡ map (λ row. eval (exprs.Column c) row) (rows_at rows indexes)
values_at-Column rows indexes c =
    map-same _ _ indexes (λ k. get_or-map_all (λ (row : List Value). value_in row c) rows k [])
    ∙ sym (map-map (λ row. value_in row c) (λ k. get_or rows k []) indexes)
    ∙ values-Column (rows_at rows indexes) c
