-- A narrowed query keeps the same rows as the query, and they make the same groups.
use Rattle.std.proofs.Common.{◌≡◌, ℕ, Bool, true, false, ◌||◌, List, [], ◌∷◌, map, refl, sym, ap, ◌∙◌}
use Rattle.std.specs.Prelude.{if◌then◌else◌}
use Rattle.std.specs.List.{AllByRecursion, filter}
use Rattle.std.proofs.lemmas.Simd.{map-map}
use Rattle.pj_value.specs.declared.value.Kind.{Kind}
use Rattle.pj_expr.specs.declared.expr.Expr.{Expr}
use Rattle.pj_expr.specs.declared.cond.Cond.{Cond}
use Rattle.pj_expr.specs.declared.query.Item.{Item}
use Rattle.pj_expr.specs.declared.query.Item.TheVariants.{Plain, Agg}
use Rattle.pj_expr.specs.declared.query.OrderKey.{OrderKey}
use Rattle.pj_expr.specs.declared.query.Query.{Query}
use Rattle.pj_expr.specs.Eval.{eval, holds}
use Rattle.pj_expr.specs.Fits.{is_call, is_grouped, aggregates_rows}
use Rattle.pj_answer.specs.Answers.{Row, same_row, distinct_rows, key_of, groups_by, groups_of}
use Rattle.pj_answer.proofs.GroupLemmas.{map-agreeing}
use Rattle.pj_narrow.specs.Narrowing.{expr_uses, cond_uses, narrowed_expr, narrowed_cond, narrowed_item}
use Rattle.pj_narrow.specs.Narrowing.{narrowed_key, narrowed}
use Rattle.pj_narrow.proofs.ListLemmas.{map-same, filter-mapped, list_any-mapped}
use Rattle.pj_narrow.proofs.PlaceLemmas.{kept-value}
use Rattle.pj_narrow.proofs.MeaningLemmas.{holds-narrowed}
use Rattle.pj_narrow.proofs.ItemLemmas.{KeepsEach, narrow_row, eval-kept}

-- ---- whether a query aggregates

-- a narrowed item is a call where the item is one
is_call-narrowed : (columns : List ℕ) (item : Item) → is_call (narrowed_item columns item) ≡ is_call item
is_call-narrowed columns (Plain e) = refl
is_call-narrowed columns (Agg call) = refl

-- there is a GROUP BY in both
is_grouped-narrowed : (columns : List ℕ) (keys : List Expr)
    → is_grouped (map (narrowed_expr columns) keys) ≡ is_grouped keys
is_grouped-narrowed columns [] = refl
is_grouped-narrowed columns (e ∷ keys) = refl

-- both aggregate, or none does
pub aggregates-narrowed : (columns : List ℕ) (q : Query)
    → aggregates_rows (narrowed columns q) ≡ aggregates_rows q
aggregates-narrowed columns q =
    let items = list_any-mapped is_call is_call (narrowed_item columns) (is_call-narrowed columns) q.items in
    let order =
    list_any-mapped
    (λ (by : OrderKey). is_call by.item) (λ (by : OrderKey). is_call by.item) (narrowed_key columns)
    (λ by. is_call-narrowed columns by.item) q.order in
    let grouped = is_grouped-narrowed columns q.groups in
    λ i. items i || (order i || grouped i)

-- ---- groups

-- the groups of rows, by whether the query aggregates and has a GROUP BY
abbrev groups : List Expr → Bool → Bool → List Row → List (List Row)
groups keys aggregates grouped rows =
    if aggregates then (if grouped then groups_by keys rows else rows ∷ []) else map (λ row. row ∷ []) rows

module _ (kinds : List Kind) (columns : List ℕ) where
  -- the row in the columns that are kept
  abbrev narrow : Row → Row
  narrow row = narrow_row kinds columns row

  -- the rows that satisfy a condition
  pub filter-kept : (cond : Cond) → KeepsEach kinds columns (λ c. cond_uses c cond) → (rows : List Row)
      → filter (holds (narrowed_cond columns cond)) (map narrow rows) ≡ map narrow (filter (holds cond) rows)
  filter-kept cond keeps rows =
      filter-mapped (holds (narrowed_cond columns cond)) (holds cond) narrow
      (λ row.
      holds-narrowed columns row (narrow row) cond (λ c u. kept-value kinds columns c (keeps c u) row)) rows

  module _ (keys : List Expr)
      (keeps : AllByRecursion (λ e. KeepsEach kinds columns (λ c. expr_uses c e)) keys) where
    -- the values of GROUP BY over the columns that are kept
    abbrev narrow_keys : List Expr
    narrow_keys = map (narrowed_expr columns) keys

    -- the values of GROUP BY for a row
    key_of-kept : (row : Row) → key_of narrow_keys (narrow row) ≡ key_of keys row
    key_of-kept row =
        map-map (λ e. eval e (narrow row)) (narrowed_expr columns) keys
        ∙ map-agreeing
        (λ e. KeepsEach kinds columns (λ c. expr_uses c e))
        (λ e. eval (narrowed_expr columns e) (narrow row))
        (λ e. eval e row)
        (λ e each. eval-kept kinds columns e each row) keys keeps

    -- the groups by them
    groups_by-kept : (rows : List Row)
        → groups_by narrow_keys (map narrow rows) ≡ map (map narrow) (groups_by keys rows)
    groups_by-kept rows =
        let all =
        map-map (key_of narrow_keys) narrow rows
        ∙ map-same (λ row. key_of narrow_keys (narrow row)) (key_of keys) key_of-kept rows in
        let once = distinct_rows (map (key_of keys) rows) in
        ap
        (λ rs. map (λ key. filter (λ row. same_row key (key_of narrow_keys row)) (map narrow rows))
        (distinct_rows rs)) all
        ∙ map-same
        (λ key. filter (λ row. same_row key (key_of narrow_keys row)) (map narrow rows))
        (λ key. map narrow (filter (λ row. same_row key (key_of keys row)) rows))
        (λ key.
        filter-mapped
        (λ row. same_row key (key_of narrow_keys row)) (λ row. same_row key (key_of keys row)) narrow
        (λ row. ap (same_row key) (key_of-kept row)) rows) once
        ∙ sym (map-map (map narrow) (λ key. filter (λ row. same_row key (key_of keys row)) rows) once)

    -- the groups, of whatever form the query is
    groups-kept : (aggregates grouped : Bool) (rows : List Row)
        → groups narrow_keys aggregates grouped (map narrow rows)
        ≡ map (map narrow) (groups keys aggregates grouped rows)
    groups-kept false grouped rows =
        map-map (λ row. row ∷ []) narrow rows ∙ sym (map-map (map narrow) (λ row. row ∷ []) rows)
    groups-kept true true rows = groups_by-kept rows
    groups-kept true false rows = refl

  -- the groups of a query
  pub groups_of-kept : (q : Query)
      → AllByRecursion (λ e. KeepsEach kinds columns (λ c. expr_uses c e)) q.groups → (rows : List Row)
      → groups_of (narrowed columns q) (map narrow rows) ≡ map (map narrow) (groups_of q rows)
  groups_of-kept q keeps rows =
      (λ i.
      groups (map (narrowed_expr columns) q.groups) (aggregates-narrowed columns q i)
      (is_grouped-narrowed columns q.groups i) (map narrow rows))
      ∙ groups-kept q.groups keeps (aggregates_rows q) (is_grouped q.groups) rows
