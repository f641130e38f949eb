-- Facts about outcomes, and about answers that are made of them.
use Rattle.std.proofs.Common.{◌≡◌, ℕ, zero, suc, ◌+◌, ◌<◌, false, List, [], ◌∷◌}
use Rattle.std.proofs.Common.{length}
use Rattle.std.proofs.Common.{get_or, map, Option, Some, None, refl, sym, ap, ◌∙◌, arith}
use Rattle.std.specs.List.{range_with_len, filter, All, AllByRecursion}
use Rattle.std.specs.List.Sorted.{IsPermutation, IsSortedBy}
use Rattle.std.specs.Ordering.{is_lt}
use Rattle.std.proofs.lemmas.List.{same_lists, length-map, get_or_default, take-map}
use Rattle.std.proofs.lemmas.List.FromFn.{length-map-range_with_len, get_or-map-range_with_len}
use Rattle.std.proofs.lemmas.List.FromFn.{length-range_with_len, get_or-range_with_len}
use Rattle.std.proofs.lemmas.List.Elements.{All-head, All-tail, All-from_get_or, All-take, All-from_recursion}
use Rattle.std.proofs.lemmas.List.Sorted.{IsPermutation-map, All-permutation}
use Rattle.std.proofs.lemmas.Simd.{map-map}
use Rattle.pj_value.specs.declared.value.Kind.{Kind}
use Rattle.pj_value.specs.declared.value.Value.{Value}
use Rattle.pj_value.specs.Rows.{KindedRows, HaveKinds, rows_at}
use Rattle.pj_expr.specs.declared.query.Item.{Item}
use Rattle.pj_expr.specs.declared.query.OrderKey.{OrderKey}
use Rattle.pj_expr.specs.declared.query.Query.{Query}
use Rattle.pj_answer.specs.Answers.{Outcome, Answers, outcome_of, outcomes_of, groups_of, item_value}
use Rattle.pj_answer.specs.Answers.{item_kind}
use Rattle.pj_answer.specs.Answers.{order_cmp, NeverStepBack, cut}
use Rattle.pj_expr.specs.Eval.{holds}
use Rattle.pj_expr.specs.Fits.{FitsItem, FitsQuery, IsOfGroup}
use Rattle.pj_answer.specs.Rows.{of_kinds, item_row, HasShape, kept_groups, keys_cmp, is_before, first_of}
use Rattle.pj_answer.proofs.orders.OrderLemmas.{keys_cmp-all}
use Rattle.pj_block.proofs.RowLemmas.{get_or-map_all, map-same}
use Rattle.pj_answer.proofs.ShapeLemmas.{HaveKinds-filter, query-shapes}

-- a outcome without values
abbrev pub no_outcome : Outcome
no_outcome = record { output = []; order = [] }

-- the items at all indexes
all_items : {X : Type 0} (xs : List X) (d : X) → map (λ k. get_or xs k d) (range_with_len 0 (length xs)) ≡ xs
all_items xs d =
    same_lists (map (λ k. get_or xs k d) (range_with_len 0 (length xs))) xs
    (length-map-range_with_len (λ k. get_or xs k d) 0 (length xs))
    (λ k e l.
    let m : k < length xs = omega (arith, length-map-range_with_len (λ k. get_or xs k d) 0 (length xs), l) in
    get_or-map-range_with_len (λ k. get_or xs k d) 0 (length xs) k k e m (omega arith)
    ∙ get_or_default xs k d e m)

-- indexes of a list are within it
pub indexes_within : (n : ℕ) (ps : List ℕ) → IsPermutation (range_with_len 0 n) ps → All (λ k. k < n) ps
indexes_within n ps perm =
    All-permutation (λ k. k < n) (range_with_len 0 n) ps perm
    (All-from_get_or (λ k. k < n) (range_with_len 0 n) 0
    (λ i l. let m : i < n = omega (arith, length-range_with_len 0 n, l) in
    rw (get_or-range_with_len 0 n i 0 m) (omega arith)))

-- the first of the indexes are within it too
pub first_within : (n : ℕ) (limit : Option ℕ) (ps : List ℕ) → All (λ k. k < n) ps
    → All (λ k. k < n) (first_of limit ps)
first_within n None ps a = a
first_within n (Some most) ps a = All-take (λ k. k < n) most ps a

-- the first of outcomes at indexes
cut-map : (limit : Option ℕ) (f : ℕ → Outcome) (ps : List ℕ) → cut limit (map f ps) ≡ map f
    (first_of limit ps)
cut-map None f ps = refl
cut-map (Some n) f ps = take-map f n ps

-- sorted indexes give outcomes that never step back
never_steps_back : (keys : List OrderKey) (outcomes : List Outcome) (orders : List (List Value)) (ps : List ℕ)
    → AllByRecursion (λ (outcome : Outcome). length outcome.order ≡ length keys) outcomes
    → orders ≡ map (λ (outcome : Outcome). outcome.order) outcomes → IsSortedBy (is_before keys orders) ps
    → All (λ k. k < length outcomes) ps → NeverStepBack keys (map (λ k. get_or outcomes k no_outcome) ps)
never_steps_back keys outcomes orders [] long e up a = tt
never_steps_back keys outcomes orders (p ∷ []) long e up a = tt
never_steps_back keys outcomes orders (p ∷ r ∷ ps) long e up a = (
  here,
  never_steps_back keys outcomes orders (r ∷ ps) long e
      (λ k d l m. let e : suc k + 1 ≡ suc (k + 1) = omega arith in
      rw e at (up (suc k) d (omega arith) (omega arith)))
      (All-tail (λ k. k < length outcomes) p (r ∷ ps) a),
)
  where
    row : (k : ℕ) → get_or orders k [] ≡ (get_or outcomes k no_outcome).order
    row k = ap (λ xs. get_or xs k []) e ∙ get_or-map_all (λ (outcome : Outcome). outcome.order) outcomes k
        no_outcome

    size : (ls : List Outcome) (k : ℕ) → AllByRecursion (λ (outcome : Outcome). length outcome.order
        ≡ length keys) ls
        → k < length ls → length (get_or ls k no_outcome).order ≡ length keys
    size [] k h l = absurd (omega arith)
    size (x ∷ ls) zero h l = h.0
    size (x ∷ ls) (suc k) h l = size ls k h.1 (omega arith)

    here : is_lt (order_cmp keys (get_or outcomes r no_outcome).order (get_or outcomes p no_outcome).order)
        ≡ false
    here =
        let m : p < length outcomes = All-head (λ k. k < length outcomes) p (r ∷ ps) a in
        let n : r < length outcomes =
        All-head (λ k. k < length outcomes) r ps (All-tail (λ k. k < length outcomes) p (r ∷ ps) a) in
        let f : is_lt (keys_cmp keys 0 (get_or orders r []) (get_or orders p [])) ≡ false =
        up 0 0 (omega arith) (omega arith) in
        sym (ap is_lt (ap (λ a. keys_cmp keys 0 a (get_or orders p [])) (row r)
        ∙ ap (λ b. keys_cmp keys 0 (get_or outcomes r no_outcome).order b) (row p)
        ∙ keys_cmp-all keys (get_or outcomes r no_outcome).order (get_or outcomes p no_outcome).order
        (size outcomes r long n)
        (size outcomes p long m))) ∙ f

-- a outcome has one order value for each key
outcomes_long : (q : Query) (columns : List Kind) (groups : List (List (List Value)))
    → AllByRecursion (λ (outcome : Outcome). length outcome.order ≡ length q.order) (map
    (outcome_of columns q) groups)
outcomes_long q columns [] = tt
outcomes_long q columns (group ∷ groups) = (length-map q.order _, outcomes_long q columns groups)

-- outcomes that are sorted and cut are a right answer
pub answers_from : (q : Query) (rows out : KindedRows) (outs orders : List (List Value)) (ps : List ℕ)
    → outs ≡ map (λ (outcome : Outcome). outcome.output) (outcomes_of q rows)
    → orders ≡ map (λ (outcome : Outcome). outcome.order) (outcomes_of q rows)
    → IsPermutation (range_with_len 0 (length orders)) ps → IsSortedBy (is_before q.order orders) ps
    → out.rows ≡ rows_at outs (first_of q.limit ps) → out.kinds ≡ map (item_kind rows.kinds) q.items
    → Answers q rows out
answers_from q rows out outs orders ps e f perm up g k =
    record {
      arrangement = map at ps;
      all =
          let items : map at (range_with_len 0 (length outcomes))
          ≡ outcomes = all_items outcomes no_outcome in
          rw items at (IsPermutation-map at (range_with_len 0 (length outcomes)) ps whole);
      ordered =
          never_steps_back q.order outcomes orders ps (outcomes_long q rows.kinds _) f up
          (indexes_within (length outcomes) ps whole);
      output =
          g ∙ ap (λ xs. rows_at xs (first_of q.limit ps)) e
          ∙ map-same _ _ (first_of q.limit ps)
          (λ k. get_or-map_all (λ (outcome : Outcome). outcome.output) outcomes k no_outcome)
          ∙ sym (map-map (λ (outcome : Outcome). outcome.output) at (first_of q.limit ps))
          ∙ ap (map (λ (outcome : Outcome). outcome.output)) (sym (cut-map q.limit at ps));
      kinds = k;
    }
  where
    outcomes : List Outcome
    outcomes = outcomes_of q rows

    at : ℕ → Outcome
    at k = get_or outcomes k no_outcome

    size : length orders ≡ length outcomes
    size = ap length f ∙ length-map outcomes (λ (outcome : Outcome). outcome.order)

    whole : IsPermutation (range_with_len 0 (length outcomes)) ps
    whole = rw size at perm

-- what the items give for the groups
pub outputs_are : (q : Query) (rows : KindedRows)
    → map (item_row q.items) (kept_groups q rows) ≡ map (λ (outcome : Outcome). outcome.output)
    (outcomes_of q rows)
outputs_are q rows =
    map-map (item_row q.items) (of_kinds rows.kinds) _
    ∙ sym (map-map (λ (outcome : Outcome). outcome.output) (outcome_of rows.kinds q) _)

-- what the keys compare
pub orders_are : (q : Query) (rows : KindedRows) (items : List Item)
    → items ≡ map (λ (key : OrderKey). key.item) q.order
    → map (item_row items) (kept_groups q rows) ≡ map (λ (outcome : Outcome). outcome.order)
    (outcomes_of q rows)
orders_are q rows items e =
    ap (λ is. map (item_row is) (kept_groups q rows)) e
    ∙ map-map (item_row (map (λ (key : OrderKey). key.item) q.order)) (of_kinds rows.kinds) _
    ∙ map-same _ _ (groups_of q (filter (holds q.filter) rows.rows))
    (λ g. map-map (item_value rows.kinds g) (λ (key : OrderKey). key.item) q.order)
    ∙ sym (map-map (λ (outcome : Outcome). outcome.order) (outcome_of rows.kinds q) _)

-- each group is of the kinds of the rows
pub groups_kinds : (columns : List Kind) (gs : List (List (List Value)))
    → All (λ (g : KindedRows). g.kinds ≡ columns) (map (of_kinds columns) gs)
groups_kinds columns gs = All-from_recursion (λ (g : KindedRows). g.kinds ≡ columns)
    (map (of_kinds columns) gs) (each gs)
  where
    each : (gs : List (List (List Value)))
        → AllByRecursion (λ (g : KindedRows). g.kinds ≡ columns) (map (of_kinds columns) gs)
    each [] = tt
    each (g ∷ gs) = (refl, each gs)

-- what holds of the items of keys
pub keys_items : (P : Item → Type 0) (keys : List OrderKey)
    → AllByRecursion (λ (key : OrderKey). P key.item) keys
    → AllByRecursion P (map (λ (key : OrderKey). key.item) keys)
keys_items P [] a = tt
keys_items P (key ∷ keys) a = (a.0, keys_items P keys a.1)

-- what a query's items and keys give for the groups is of their kinds
pub items_shapes : (q : Query) (rows : KindedRows) → HaveKinds rows.kinds rows.rows → FitsQuery rows.kinds q
    → All (HasShape rows.kinds q.items) (kept_groups q rows)
items_shapes q rows s f =
    query-shapes rows.kinds q.items f.kinds.items q (filter (holds q.filter) rows.rows)
    (HaveKinds-filter rows.kinds (holds q.filter) rows.rows s) f.groups.items

pub keys_shapes : (q : Query) (rows : KindedRows) → HaveKinds rows.kinds rows.rows → FitsQuery rows.kinds q
    → All (HasShape rows.kinds (map (λ (key : OrderKey). key.item) q.order))
    (kept_groups q rows)
keys_shapes q rows s f =
    query-shapes rows.kinds (map (λ (key : OrderKey). key.item) q.order)
    (keys_items (FitsItem rows.kinds) q.order f.kinds.order) q
    (filter (holds q.filter) rows.rows) (HaveKinds-filter rows.kinds (holds q.filter) rows.rows s)
    (λ e. keys_items (IsOfGroup q.groups) q.order (f.groups.order e))
