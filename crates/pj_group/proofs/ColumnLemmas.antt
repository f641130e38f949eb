-- What items give for rows by themselves, column by column.
use Rattle.std.proofs.Common.{◌≡◌, ℕ, ◌<◌, List, [], ◌∷◌, length, map, get_or, replicate}
use Rattle.std.proofs.Common.{Some}
use Rattle.std.proofs.Common.{refl, sym, ap, ◌∙◌, arith, subst}
use Rattle.std.specs.List.{All, AllByRecursion, range_with_len}
use Rattle.std.proofs.lemmas.List.{same_lists, length-map, get_or-map}
use Rattle.std.proofs.lemmas.List.FromFn.{length-map-range_with_len, get_or-map-range_with_len}
use Rattle.std.proofs.lemmas.List.Elements.{All-from_recursion}
use Rattle.std.proofs.lemmas.Simd.{map-map}
use Rattle.pj_value.specs.declared.value.Value.{Value}
use Rattle.pj_value.specs.declared.value.Value.TheVariants as values
use Rattle.pj_value.specs.Columns.{KindedValues, kinds_of, values_of, row_at}
use Rattle.pj_value.specs.Rows.{KindedRows, rows_in, rows_joined}
use Rattle.pj_expr.specs.declared.expr.Expr.{Expr}
use Rattle.pj_expr.specs.declared.query.Item.{Item}
use Rattle.pj_expr.specs.declared.query.Item.TheVariants.{Plain}
use Rattle.pj_expr.specs.Eval.{eval}
use Rattle.pj_expr.specs.Fits.{expr_kind}
use Rattle.pj_answer.specs.Answers.{Row, or_number, item_kind}
use Rattle.pj_group.specs.Indexes.{row_value, row_output, item_column, outputs_of}

-- a column that was computed
pub item_column-computed : (rows : KindedRows) (e : Expr) (c : KindedValues)
    → Some c.kind ≡ expr_kind rows.kinds e → c.values ≡ map (λ row. eval e row) rows.rows
    → c ≡ item_column rows (Plain e)
item_column-computed rows e c k v = λ i. record { kind = or_number (k i); values = v i }

-- the values of an expression that is the same for each row
pub values-literal : (rows : List Row) (e : Expr) (v : Value) → ((row : Row) → eval e row ≡ v)
    → replicate (length rows) v ≡ map (λ row. eval e row) rows
values-literal [] e v h = refl
values-literal (row ∷ rows) e v h = λ i. sym (h row) i ∷ values-literal rows e v h i

-- ---- columns as rows

module _ (rows : KindedRows) where
  -- the kinds of the columns
  kinds_of-items : (items : List Item)
      → kinds_of (map (item_column rows) items) ≡ map (item_kind rows.kinds) items
  kinds_of-items items = map-map (λ (c : KindedValues). c.kind) (item_column rows) items

  -- the values of the columns at one row
  row_at-items : (items : List Item) (at : ℕ) → at < length rows.rows
      → row_at (values_of (map (item_column rows) items)) at
      ≡ row_output rows.kinds items (get_or rows.rows at [])
  row_at-items [] at l = refl
  row_at-items (item ∷ items) at l =
      λ i. get_or-map (row_value rows.kinds item) rows.rows at [] (values.Num 0) l i
      ∷ row_at-items items at l i

  -- each column has a value for each row
  items_long : (items : List Item)
      → AllByRecursion (λ (c : KindedValues). length c.values ≡ length rows.rows)
      (map (item_column rows) items)
  items_long [] = tt
  items_long (item ∷ items) = (length-map rows.rows (row_value rows.kinds item), items_long items)

  -- as many rows as there were
  rows_in-items : (items : List Item) → 0 < length items
      → rows_in (map (item_column rows) items) ≡ length rows.rows
  rows_in-items [] l = absurd (omega arith)
  rows_in-items (item ∷ items) l = length-map rows.rows (row_value rows.kinds item)

  -- the columns are as long as the first
  pub items-lengths : (items : List Item) → 0 < length items
      → All (λ (c : KindedValues). length c.values ≡ rows_in (map (item_column rows) items))
      (map (item_column rows) items)
  items-lengths items l =
      All-from_recursion (λ (c : KindedValues). length c.values ≡ rows_in (map (item_column rows) items)) _
      (subst (λ n. AllByRecursion (λ (c : KindedValues). length c.values ≡ n) (map (item_column rows) items))
      (sym (rows_in-items items l)) (items_long items))

  -- the rows of the columns are what the items give
  pub rows_joined-items : (items : List Item) → 0 < length items
      → rows_joined (map (item_column rows) items) ≡ outputs_of rows items
  rows_joined-items items l = λ i. record { kinds = kinds_of-items items i; rows = joined i }
    where
      n : ℕ
      n = length rows.rows

      f : ℕ → Row
      f = row_at (values_of (map (item_column rows) items))

      g : Row → Row
      g = row_output rows.kinds items

      joined : map f (range_with_len 0 (rows_in (map (item_column rows) items))) ≡ map g rows.rows
      joined =
          ap (λ m. map f (range_with_len 0 m)) (rows_in-items items l)
          ∙ same_lists (map f (range_with_len 0 n)) (map g rows.rows)
          (length-map-range_with_len f 0 n ∙ sym (length-map rows.rows g))
          (λ k d l.
          let m : k < n = omega (arith, length-map-range_with_len f 0 n, l) in
          get_or-map-range_with_len f 0 n k k d m (omega arith) ∙ row_at-items items k m
          ∙ sym (get_or-map g rows.rows k [] d m))
