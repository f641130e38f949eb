-- The outcomes of a query that doesn't aggregate, by the indexes of their rows.
use Rattle.std.proofs.Common.{◌≡◌, ℕ, ◌+◌, suc, ◌<◌, Bool, true, false, ◌||◌, List, [], ◌∷◌}
use Rattle.std.proofs.Common.{length, map, get_or, Option, Some, None}
use Rattle.std.proofs.Common.{refl, sym, ap, ◌∙◌, arith, true≢false}
use Rattle.std.specs.List.{filter, list_any, range_with_len, All, AllByRecursion}
use Rattle.std.specs.List.Sorted.{IsPermutation, IsSortedBy}
use Rattle.std.specs.Ordering.{ordering_then, is_lt}
use Rattle.std.proofs.lemmas.List.{get_or-map, take-map}
use Rattle.std.proofs.lemmas.List.Elements.{All-head, All-tail, All-from_recursion}
use Rattle.std.proofs.lemmas.List.Sorted.{IsPermutation-map, IsPermutation-refl, All-permutation}
use Rattle.std.proofs.lemmas.Simd.{map-map}
use Rattle.pj_value.specs.declared.value.Kind.{Kind}
use Rattle.pj_value.specs.declared.value.Value.TheVariants as values
use Rattle.pj_value.specs.Order.{value_cmp}
use Rattle.pj_value.specs.Rows.{KindedRows, rows_at}
use Rattle.pj_expr.specs.declared.cond.Cond.TheVariants as conds
use Rattle.pj_expr.specs.declared.query.Item.{Item}
use Rattle.pj_expr.specs.declared.query.Item.TheVariants.{Plain, Agg}
use Rattle.pj_expr.specs.declared.query.OrderKey.{OrderKey}
use Rattle.pj_expr.specs.declared.query.Query.{Query}
use Rattle.pj_expr.specs.Eval.{holds}
use Rattle.pj_expr.specs.Fits.{FitsItem, FitsQuery, is_call, aggregates_rows}
use Rattle.pj_answer.specs.Answers.{Row, Outcome, Answers, outcome_of, outcomes_of, order_cmp, turned}
use Rattle.pj_answer.specs.Answers.{NeverStepBack, cut}
use Rattle.pj_answer.specs.Rows.{first_of}
use Rattle.pj_answer.proofs.AnswerLemmas.{indexes_within}
use Rattle.pj_expr.proofs.EvalLemmas.{holds-All}
use Rattle.pj_block.proofs.IndexLemmas.{kept-indexes}
use Rattle.pj_answer.proofs.ShapeLemmas.{groups_row}
use Rattle.pj_group.specs.Indexes.{FitsRow, row_value, row_output, outputs_of, chosen, key_for, indexes_cmp}
use Rattle.pj_group.specs.Indexes.{is_before}

-- ---- items without calls

-- neither test holds
neither : (a b : Bool) → (a || b) ≡ false → (a ≡ false) × (b ≡ false)
neither true b e = absurd (true≢false e)
neither false true e = absurd (true≢false e)
neither false false e = (refl, refl)

-- an item that fits and is no call
fits-row : (columns : List Kind) (item : Item) → FitsItem columns item → is_call item ≡ false
    → FitsRow columns item
fits-row columns (Plain e) f n = f
fits-row columns (Agg call) f n = absurd (true≢false n)

fits-rows : {X : Type 0} (columns : List Kind) (item : X → Item) (xs : List X)
    → AllByRecursion (λ x. FitsItem columns (item x)) xs → list_any (λ x. is_call (item x)) xs ≡ false
    → AllByRecursion (λ x. FitsRow columns (item x)) xs
fits-rows columns item [] f n = tt
fits-rows columns item (x ∷ xs) f n =
    let b : (is_call (item x) ≡ false) × (list_any (λ x. is_call (item x)) xs ≡ false) = neither _ _ n in
    (fits-row columns (item x) f.0 b.0, fits-rows columns item xs f.1 b.1)

-- the items and the keys of a query that doesn't aggregate
pub items-fit : (columns : List Kind) (q : Query) → FitsQuery columns q → aggregates_rows q ≡ false
    → All (FitsRow columns) q.items
items-fit columns q f n =
    All-from_recursion (FitsRow columns) q.items
    (fits-rows columns (λ (item : Item). item) q.items f.kinds.items (neither _ _ n).0)

pub keys-fit : (columns : List Kind) (q : Query) → FitsQuery columns q → aggregates_rows q ≡ false
    → All (λ (key : OrderKey). FitsRow columns key.item) q.order
keys-fit columns q f n =
    All-from_recursion (λ (key : OrderKey). FitsRow columns key.item) q.order
    (fits-rows columns (λ (key : OrderKey). key.item) q.order f.kinds.order
    (neither _ _ (neither (list_any is_call q.items) _ n).1).0)

-- ---- all rows

-- where each element passes, all are kept
filter-all : {X : Type 0} (p : X → Bool) (xs : List X) → ((x : X) → p x ≡ true) → filter p xs ≡ xs
filter-all p [] h = refl
filter-all p (x ∷ xs) h = rw (h x, filter-all p xs h)

-- the rows at all indexes hold the filter that all rows satisfy
pub rows_at-all : (rows : List Row)
    → rows_at rows (range_with_len 0 (length rows)) ≡ filter (holds conds.All) rows
rows_at-all rows =
    ap (rows_at rows)
    (sym (filter-all (λ k. holds conds.All (get_or rows k [])) (range_with_len 0 (length rows))
    (λ k. holds-All (get_or rows k []))))
    ∙ kept-indexes (holds conds.All) [] rows

-- the filter that all rows satisfy keeps all rows
pub kept-all : (rows : List Row) → rows ≡ filter (holds conds.All) rows
kept-all rows = sym (filter-all (holds conds.All) rows holds-All)

-- all indexes are indexes of rows
pub all-within : (n : ℕ) → All (λ k. k < n) (range_with_len 0 n)
all-within n = indexes_within n (range_with_len 0 n) (IsPermutation-refl (range_with_len 0 n))

-- ---- outcomes in order

module _ (q : Query) (rows : KindedRows) where
  -- the outcome of the row at an index
  abbrev outcome : ℕ → Outcome
  outcome k = outcome_of rows.kinds q (get_or rows.rows k [] ∷ [])

  -- the outcomes of the rows at these indexes
  outcomes-indexes : (kept : List ℕ) → aggregates_rows q ≡ false
      → rows_at rows.rows kept ≡ filter (holds q.filter) rows.rows → outcomes_of q rows ≡ map outcome kept
  outcomes-indexes kept n e =
      ap (map (outcome_of rows.kinds q)) (groups_row q (filter (holds q.filter) rows.rows) n)
      ∙ map-map (outcome_of rows.kinds q) (λ (row : Row). row ∷ []) (filter (holds q.filter) rows.rows)
      ∙ ap (map (λ (row : Row). outcome_of rows.kinds q (row ∷ []))) (sym e)
      ∙ map-map (λ (row : Row). outcome_of rows.kinds q (row ∷ [])) (λ k. get_or rows.rows k []) kept

  -- the order rows of two outcomes stand as the keys at their indexes
  order_cmp-indexes : (keys : List OrderKey) (a b : ℕ) → a < length rows.rows → b < length rows.rows
      → indexes_cmp (map (key_for rows) keys) a b
      ≡ order_cmp keys (map (λ (key : OrderKey). row_value rows.kinds key.item (get_or rows.rows a [])) keys)
      (map (λ (key : OrderKey). row_value rows.kinds key.item (get_or rows.rows b [])) keys)
  order_cmp-indexes [] a b l m = refl
  order_cmp-indexes (key ∷ keys) a b l m =
      λ i. ordering_then
      (turned key.descending
      (value_cmp (get_or-map (row_value rows.kinds key.item) rows.rows a [] (values.Num 0) l i)
      (get_or-map (row_value rows.kinds key.item) rows.rows b [] (values.Num 0) m i)))
      (order_cmp-indexes keys a b l m i)

  -- sorted indexes give outcomes that never step back
  never_steps_back : (ps : List ℕ) → All (λ k. k < length rows.rows) ps
      → IsSortedBy (is_before (map (key_for rows) q.order)) ps → NeverStepBack q.order (map outcome ps)
  never_steps_back [] a up = tt
  never_steps_back (p ∷ []) a up = tt
  never_steps_back (p ∷ r ∷ ps) a up =
      let rest = All-tail (λ k. k < length rows.rows) p (r ∷ ps) a in
      let l : p < length rows.rows = All-head (λ k. k < length rows.rows) p (r ∷ ps) a in
      let m : r < length rows.rows = All-head (λ k. k < length rows.rows) r ps rest in
      let first : is_lt (indexes_cmp (map (key_for rows) q.order) r p) ≡ false =
      up 0 0 (omega arith) (omega arith) in (
        sym (ap is_lt (order_cmp-indexes q.order r p m l)) ∙ first,
        never_steps_back (r ∷ ps) rest
            (λ k d l m. let e : suc k + 1 ≡ suc (k + 1) = omega arith in
            rw e at (up (suc k) d (omega arith) (omega arith))),
      )

  -- the first of the outcomes
  cut-outcomes : (limit : Option ℕ) (ps : List ℕ) → cut limit (map outcome ps) ≡ map outcome
      (first_of limit ps)
  cut-outcomes None ps = refl
  cut-outcomes (Some n) ps = take-map outcome n ps

  -- what the items give for the rows at indexes, by their outcomes
  outputs-indexes : (ps : List ℕ)
      → map (row_output rows.kinds q.items) (rows_at rows.rows ps)
      ≡ map (λ (l : Outcome). l.output) (map outcome ps)
  outputs-indexes ps =
      map-map (row_output rows.kinds q.items) (λ k. get_or rows.rows k []) ps
      ∙ sym (map-map (λ (l : Outcome). l.output) outcome ps)

  -- outcomes that are sorted by their indexes and cut are a right answer
  pub answers-indexes : (out : KindedRows) (kept ps : List ℕ) → aggregates_rows q ≡ false
      → rows_at rows.rows kept ≡ filter (holds q.filter) rows.rows
      → All (λ k. k < length rows.rows) ps → IsPermutation kept ps
      → IsSortedBy (is_before (map (key_for rows) q.order)) ps
      → out ≡ outputs_of (chosen rows (first_of q.limit ps)) q.items → Answers q rows out
  answers-indexes out kept ps n e a perm up o =
      record {
        arrangement = map outcome ps;
        all = rw (outcomes-indexes kept n e) (IsPermutation-map outcome kept ps perm);
        ordered = never_steps_back ps a up;
        output =
            ap (λ (r : KindedRows). r.rows) o ∙ outputs-indexes (first_of q.limit ps)
            ∙ ap (map (λ (l : Outcome). l.output)) (sym (cut-outcomes q.limit ps));
        kinds = ap (λ (r : KindedRows). r.kinds) o;
      }

-- indexes that were arranged are indexes of rows, and so are the first of them
pub arranged-within : (n : ℕ) (kept ps : List ℕ) → All (λ k. k < n) kept → IsPermutation kept ps
    → All (λ k. k < n) ps
arranged-within n kept ps a perm = All-permutation (λ k. k < n) kept ps perm a
