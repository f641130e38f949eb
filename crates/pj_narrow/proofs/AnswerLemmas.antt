-- Narrowed queries fit, and their answers are those of the query.
use Rattle.std.proofs.Common.{◌≡◌, ℕ, Bool, ◌||◌, List, [], ◌∷◌, length, map}
use Rattle.std.proofs.Common.{refl, sym, ap, ◌∙◌, subst}
use Rattle.std.specs.List.{AllByRecursion, filter, list_any}
use Rattle.std.specs.List.Sorted.{IsPermutation}
use Rattle.std.specs.Ordering.{ordering_then, is_lt}
use Rattle.std.proofs.lemmas.Simd.{map-map}
use Rattle.pj_block.proofs.IndexLemmas.{indexes-within}
use Rattle.pj_value.specs.declared.value.Kind.{Kind}
use Rattle.pj_value.specs.Order.{value_cmp}
use Rattle.pj_expr.specs.declared.query.OrderKey.{OrderKey}
use Rattle.pj_expr.specs.declared.query.Query.{Query}
use Rattle.pj_expr.specs.Eval.{holds}
use Rattle.pj_expr.specs.Fits.{FitsExpr, FitsItem, IsOfGroup, KeepsKinds, FitsQuery}
use Rattle.pj_answer.specs.Answers.{Row, Outcome, outcome_of, outcomes_of, groups_of, turned, order_cmp}
use Rattle.pj_answer.specs.Answers.{NeverStepBack}
use Rattle.pj_read.specs.Spans.{picked}
use Rattle.pj_narrow.specs.Narrowing.{expr_uses, cond_uses, item_uses, query_uses, columns_in}
use Rattle.pj_narrow.specs.Narrowing.{narrowed_expr, narrowed_item, narrowed_key, narrowed}
use Rattle.pj_narrow.specs.Laws.{ColumnsAreThere, NarrowedQueriesFit, NarrowedItemsKeepTheirKinds, NarrowedQueriesAnswerAlike}
use Rattle.pj_narrow.proofs.ListLemmas.{or-first, or-second, each_of_any, map-same, all-mapped, all-both}
use Rattle.pj_narrow.proofs.WithinLemmas.{query-within}
use Rattle.pj_narrow.proofs.PlaceLemmas.{IsKept, used-kept, kept-kind}
use Rattle.pj_narrow.proofs.MeaningLemmas.{cond_fits-narrowed}
use Rattle.pj_narrow.proofs.ItemLemmas.{KeepsEach, narrow_kinds, narrow_row, expr_fits-kept, item_fits-kept}
use Rattle.pj_narrow.proofs.ItemLemmas.{item_of_group-kept, outcome_of-kept, item_kinds-kept}
use Rattle.pj_narrow.proofs.GroupLemmas.{aggregates-narrowed, filter-kept, groups_of-kept}

-- ---- the columns that are kept

-- the columns that a query uses, of so many, are among them
pub columns_are_there : ColumnsAreThere
columns_are_there count q = indexes-within (λ c. query_uses c q) count

-- each column that the parts of a query use is kept
record KeepsParts (kinds : List Kind) (columns : List ℕ) (q : Query) : Type 0 where
  items : AllByRecursion (λ item. KeepsEach kinds columns (λ c. item_uses c item)) q.items
  filter : KeepsEach kinds columns (λ c. cond_uses c q.filter)
  groups : AllByRecursion (λ e. KeepsEach kinds columns (λ c. expr_uses c e)) q.groups
  order : AllByRecursion (λ by. KeepsEach kinds columns (λ c. item_uses c by.item)) q.order

-- so it is where each column that the query uses is kept
parts_kept : (kinds : List Kind) (columns : List ℕ) (q : Query)
    → KeepsEach kinds columns (λ c. query_uses c q) → KeepsParts kinds columns q
parts_kept kinds columns q keeps =
    let items : (ℕ → Bool) = λ c. list_any (item_uses c) q.items in
    let filter : (ℕ → Bool) = λ c. cond_uses c q.filter in
    let groups : (ℕ → Bool) = λ c. list_any (expr_uses c) q.groups in
    let order : (ℕ → Bool) = λ c. list_any (λ by. item_uses c by.item) q.order in
    record {
      items = each_of_any item_uses (IsKept kinds columns) q.items
          (λ c u. keeps c (or-first (items c) (filter c || (groups c || order c)) u));
      filter = λ c u. keeps c
          (or-second (items c) (filter c || (groups c || order c))
          (or-first (filter c) (groups c || order c) u));
      groups = each_of_any expr_uses (IsKept kinds columns) q.groups
          (λ c u. keeps c
          (or-second (items c) (filter c || (groups c || order c))
          (or-second (filter c) (groups c || order c) (or-first (groups c) (order c) u))));
      order = each_of_any (λ c by. item_uses c by.item) (IsKept kinds columns) q.order
          (λ c u. keeps c
          (or-second (items c) (filter c || (groups c || order c))
          (or-second (filter c) (groups c || order c) (or-second (groups c) (order c) u))));
    }

-- so are those of a query that fits, of the columns that it uses
used_kept : (kinds : List Kind) (q : Query) → KeepsKinds kinds q
    → KeepsParts kinds (columns_in (length kinds) q) q
used_kept kinds q fits =
    parts_kept kinds (columns_in (length kinds) q) q
    (λ c u. used-kept kinds q c (query-within kinds c q fits u) u)

-- ---- fitting

module _ (kinds : List Kind) (columns : List ℕ) (q : Query) (keeps : KeepsParts kinds columns q) where
  -- the narrowed query fits the kinds of the columns that are kept
  fits-kept : FitsQuery kinds q → FitsQuery (narrow_kinds kinds columns) (narrowed columns q)
  fits-kept fits = record {
    kinds = record {
      filter =
          cond_fits-narrowed columns kinds (narrow_kinds kinds columns) q.filter
          (λ c u. kept-kind kinds columns c (keeps.filter c u)) ∙ fits.kinds.filter;
      items =
          all-mapped
          (λ item. KeepsEach kinds columns (λ c. item_uses c item) × FitsItem kinds item)
          (FitsItem (narrow_kinds kinds columns)) (narrowed_item columns)
          (λ item both. item_fits-kept kinds columns item both.0 both.1) q.items
          (all-both (λ item. KeepsEach kinds columns (λ c. item_uses c item)) (FitsItem kinds) q.items
          keeps.items fits.kinds.items);
      groups =
          all-mapped
          (λ e. KeepsEach kinds columns (λ c. expr_uses c e) × FitsExpr kinds e)
          (FitsExpr (narrow_kinds kinds columns)) (narrowed_expr columns)
          (λ e both. expr_fits-kept kinds columns e both.0 both.1) q.groups
          (all-both (λ e. KeepsEach kinds columns (λ c. expr_uses c e)) (FitsExpr kinds) q.groups
          keeps.groups fits.kinds.groups);
      order =
          all-mapped
          (λ by. KeepsEach kinds columns (λ c. item_uses c by.item) × FitsItem kinds by.item)
          (λ by. FitsItem (narrow_kinds kinds columns) by.item) (narrowed_key columns)
          (λ by both. item_fits-kept kinds columns by.item both.0 both.1) q.order
          (all-both (λ by. KeepsEach kinds columns (λ c. item_uses c by.item))
          (λ by. FitsItem kinds by.item) q.order
          keeps.order fits.kinds.order);
    };
    groups = record {
      items = λ e.
          all-mapped
          (IsOfGroup q.groups) (IsOfGroup (map (narrowed_expr columns) q.groups)) (narrowed_item columns)
          (item_of_group-kept kinds columns q.groups) q.items
          (fits.groups.items (sym (aggregates-narrowed columns q) ∙ e));
      order = λ e.
          all-mapped
          (λ by. IsOfGroup q.groups by.item)
          (λ by. IsOfGroup (map (narrowed_expr columns) q.groups) by.item) (narrowed_key columns)
          (λ by. item_of_group-kept kinds columns q.groups by.item) q.order
          (fits.groups.order (sym (aggregates-narrowed columns q) ∙ e));
    };
  }

  -- ---- answering

  -- both have the same outcomes
  outcomes-kept : (rows : List Row)
      → outcomes_of (narrowed columns q) (picked columns (record { kinds = kinds; rows = rows }))
      ≡ outcomes_of q (record { kinds = kinds; rows = rows })
  outcomes-kept rows =
      let narrow = narrow_row kinds columns in
      let kept = filter (holds q.filter) rows in
      let outcome = outcome_of (narrow_kinds kinds columns) (narrowed columns q) in
      ap (λ rs. map outcome (groups_of (narrowed columns q) rs))
      (filter-kept kinds columns q.filter keeps.filter rows)
      ∙ ap (map outcome) (groups_of-kept kinds columns q keeps.groups kept)
      ∙ map-map outcome (map narrow) (groups_of q kept)
      ∙ map-same (λ group. outcome (map narrow group)) (outcome_of kinds q)
      (outcome_of-kept kinds columns q keeps.items keeps.order) (groups_of q kept)

-- order rows are compared alike
order_cmp-narrowed : (columns : List ℕ) (keys : List OrderKey) (a b : Row)
    → order_cmp (map (narrowed_key columns) keys) a b ≡ order_cmp keys a b
order_cmp-narrowed columns [] a b = refl
order_cmp-narrowed columns (by ∷ keys) [] b = refl
order_cmp-narrowed columns (by ∷ keys) (x ∷ a) [] = refl
order_cmp-narrowed columns (by ∷ keys) (x ∷ a) (y ∷ b) =
    ap (ordering_then (turned by.descending (value_cmp x y))) (order_cmp-narrowed columns keys a b)

-- order rows never step back in both orders
NeverStepBack-narrowed : (columns : List ℕ) (keys : List OrderKey) (outcomes : List Outcome)
    → NeverStepBack (map (narrowed_key columns) keys) outcomes → NeverStepBack keys outcomes
NeverStepBack-narrowed columns keys [] h = tt
NeverStepBack-narrowed columns keys (outcome ∷ []) h = tt
NeverStepBack-narrowed columns keys (outcome ∷ next ∷ outcomes) h = (
  ap is_lt (sym (order_cmp-narrowed columns keys next.order outcome.order)) ∙ h.0,
  NeverStepBack-narrowed columns keys (next ∷ outcomes) h.1,
)

-- ---- laws

-- a query that fits rows fits their used columns
pub narrowed_queries_fit : NarrowedQueriesFit
narrowed_queries_fit kinds q fits =
    fits-kept kinds (columns_in (length kinds) q) q (used_kept kinds q fits.kinds) fits

-- and its items have the kinds of the query's
pub narrowed_items_keep_their_kinds : NarrowedItemsKeepTheirKinds
narrowed_items_keep_their_kinds kinds q fits =
    item_kinds-kept kinds (columns_in (length kinds) q) q.items (used_kept kinds q fits.kinds).items

-- its answers over these are answers over the rows
pub narrowed_queries_answer_alike : NarrowedQueriesAnswerAlike
narrowed_queries_answer_alike q rows out fits a =
    let columns = columns_in (length rows.kinds) q in
    let keeps = used_kept rows.kinds q fits.kinds in
    record {
      arrangement = a.arrangement;
      all = subst (λ outcomes. IsPermutation outcomes a.arrangement)
          (outcomes-kept rows.kinds columns q keeps rows.rows) a.all;
      ordered = NeverStepBack-narrowed columns q.order a.arrangement a.ordered;
      output = a.output;
      kinds = a.kinds ∙ item_kinds-kept rows.kinds columns q.items keeps.items;
    }
