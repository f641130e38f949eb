-- Answers that are made of lines: what the items of a query give for its groups, in the order of its keys.
use Rattle.std.proofs.Common.{◌≡◌, ℕ, suc, ◌+◌, ◌<◌, Bool, true, false, not, cond, ◌||◌, ◌&&◌}
use Rattle.std.proofs.Common.{List, [], ◌∷◌, length, map, get_or, Option, Some, None, ◌⊎◌, inl, inr}
use Rattle.std.proofs.Common.{refl, sym, ap, ◌∙◌, subst, arith, true≢false}
use Rattle.std.specs.List.{filter, range_with_len, All, AllByRecursion, IsDistinct}
use Rattle.std.specs.List.Sorted.{IsPermutation, IsSortedBy}
use Rattle.std.specs.Ordering.{ordering_then, is_lt}
use Rattle.std.proofs.lemmas.Bool.{cases_Bool, false_from_ne_true, or_left}
use Rattle.std.proofs.lemmas.List.{same_lists, length-map, get_or-map, take-map}
use Rattle.std.proofs.lemmas.List.FromFn.{length-map-range_with_len, get_or-map-range_with_len}
use Rattle.std.proofs.lemmas.List.Elements.{All-head, All-tail, All-from_recursion}
use Rattle.std.proofs.lemmas.List.Sorted.{IsPermutation-map, IsPermutation-trans}
use Rattle.std.proofs.lemmas.Map.Keys.{IsDistinct-head, IsDistinct-tail, IsDistinct-cons}
use Rattle.std.proofs.lemmas.Simd.{map-map}
use Rattle.pj_value.specs.declared.value.Kind.{Kind}
use Rattle.pj_value.specs.declared.value.Value.TheVariants as values
use Rattle.pj_value.specs.Order.{value_cmp}
use Rattle.pj_value.specs.Columns.{KindedValues, kinds_of, values_of, row_at}
use Rattle.pj_value.specs.Rows.{KindedRows, rows_at}
use Rattle.pj_expr.specs.declared.expr.Expr.{Expr}
use Rattle.pj_expr.specs.declared.query.Item.{Item}
use Rattle.pj_expr.specs.declared.query.OrderKey.{OrderKey}
use Rattle.pj_expr.specs.declared.query.Query.{Query}
use Rattle.pj_expr.specs.Eval.{holds}
use Rattle.pj_answer.specs.Answers.{Row, Outcome, Answers, outcome_of, outcomes_of, order_cmp, turned}
use Rattle.pj_answer.specs.Answers.{NeverStepBack, cut, item_value, item_kind, groups_of, groups_by}
use Rattle.pj_answer.specs.Answers.{same_row, distinct_rows, key_of}
use Rattle.pj_answer.specs.Rows.{first_of}
use Rattle.pj_answer.proofs.AnswerLemmas.{indexes_within, first_within}
use Rattle.pj_answer.proofs.AnswersLemmas.{distinct_rows_stand_once}
use Rattle.pj_answer.proofs.OnceLemmas.{DecidesEqual, has}
use Rattle.pj_answer.proofs.Shuffles.{Shuffle, none, keep, flip, join, same, permutation}
use Rattle.pj_answer.proofs.orders.ValueOrder.{same_row_decides}
use Rattle.pj_group.specs.Indexes.{indexes_cmp, is_before}
use Rattle.pj_group.specs.Least.{AreFirst}
use Rattle.pj_group.specs.Lines.{line_of, lines_of, column_over, key_over, rows_in_columns}
use Rattle.pj_group.specs.Standing.{AreKeys, groups_in}

-- ---- lists by their indexes

-- what is the same at each index of a list
pub by_indexes : {X Y : Type 0} (f : ℕ → Y) (g : X → Y) (xs : List X) (d : X)
    → ((k : ℕ) → k < length xs → f k ≡ g (get_or xs k d))
    → map f (range_with_len 0 (length xs)) ≡ map g xs
by_indexes f g xs d h =
    same_lists (map f (range_with_len 0 (length xs))) (map g xs)
    (length-map-range_with_len f 0 (length xs) ∙ sym (length-map xs g))
    (λ k e l.
    let m : k < length xs = omega (arith, length-map-range_with_len f 0 (length xs), l) in
    get_or-map-range_with_len f 0 (length xs) k k e m (omega arith) ∙ h k m ∙ sym (get_or-map g xs k d e m))

-- functions that agree at indexes give one list
pub at-indexes : {Y : Type 0} (n : ℕ) (f g : ℕ → Y) (ps : List ℕ) → All (λ k. k < n) ps
    → ((k : ℕ) → k < n → f k ≡ g k)
    → map f ps ≡ map g ps
at-indexes n f g [] a h = refl
at-indexes n f g (p ∷ ps) a h =
    λ i. h p (All-head (λ k. k < n) p ps a) i ∷ at-indexes n f g ps (All-tail (λ k. k < n) p ps a) h i

-- the first indexes of a list are indexes of it
pub AreFirst-within : (before : ℕ → ℕ → Bool) (limit : Option ℕ) (n : ℕ) (ps : List ℕ)
    → AreFirst before limit (range_with_len 0 n) ps → All (λ k. k < n) ps
AreFirst-within before limit n ps first =
    subst (All (λ k. k < n)) (sym first.first)
    (first_within n limit first.arrangement (indexes_within n first.arrangement first.all))

-- ---- outcomes in order

-- the first of outcomes, and the first of any list
pub cut-map : {X : Type 0} (limit : Option ℕ) (f : X → Outcome) (xs : List X)
    → cut limit (map f xs) ≡ map f (first_of limit xs)
cut-map None f xs = refl
cut-map (Some n) f xs = take-map f n xs

pub first_of-map : {X Y : Type 0} (limit : Option ℕ) (f : X → Y) (xs : List X)
    → first_of limit (map f xs) ≡ map f (first_of limit xs)
first_of-map None f xs = refl
first_of-map (Some n) f xs = take-map f n xs

-- without keys no outcome steps back
never_steps_back-unordered : (outcomes : List Outcome) → NeverStepBack [] outcomes
never_steps_back-unordered [] = tt
never_steps_back-unordered (outcome ∷ []) = tt
never_steps_back-unordered (outcome ∷ next ∷ outcomes) =
    (refl, never_steps_back-unordered (next ∷ outcomes))

module _ (q : Query) (rows : KindedRows) (groups : List (List Row)) where
  -- the outcome of the group at an index
  abbrev outcome : ℕ → Outcome
  outcome k = outcome_of rows.kinds q (get_or groups k [])

  -- the outcomes of a query are those of its groups in any order
  outcomes-groups : IsPermutation (groups_of q (filter (holds q.filter) rows.rows)) groups
      → IsPermutation (outcomes_of q rows) (map (outcome_of rows.kinds q) groups)
  outcomes-groups perm =
      let kept = filter (holds q.filter) rows.rows in
      IsPermutation-map (outcome_of rows.kinds q) (groups_of q kept) groups perm

  -- the outcomes at all indexes
  outcomes-indexes : map (outcome_of rows.kinds q) groups ≡ map outcome (range_with_len 0 (length groups))
  outcomes-indexes = sym (by_indexes outcome (outcome_of rows.kinds q) groups [] (λ k l. refl))

  -- the order rows of two outcomes stand as the keys at their indexes
  pub order_cmp-indexes : (keys : List OrderKey) (a b : ℕ) → a < length groups → b < length groups
      → indexes_cmp (map (key_over rows.kinds groups) keys) a b
      ≡ order_cmp keys (map (λ (key : OrderKey). item_value rows.kinds (get_or groups a []) key.item) keys)
      (map (λ (key : OrderKey). item_value rows.kinds (get_or groups b []) key.item) keys)
  order_cmp-indexes [] a b l m = refl
  order_cmp-indexes (key ∷ keys) a b l m =
      let value = λ (group : List Row). item_value rows.kinds group key.item in
      λ i. ordering_then
      (turned key.descending
      (value_cmp (get_or-map value groups a [] (values.Num 0) l i)
      (get_or-map value groups b [] (values.Num 0) m i)))
      (order_cmp-indexes keys a b l m i)

  -- sorted indexes give outcomes that never step back
  never_steps_back : (ps : List ℕ) → All (λ k. k < length groups) ps
      → IsSortedBy (is_before (map (key_over rows.kinds groups) q.order)) ps
      → NeverStepBack q.order (map outcome ps)
  never_steps_back [] a up = tt
  never_steps_back (p ∷ []) a up = tt
  never_steps_back (p ∷ r ∷ ps) a up =
      let rest = All-tail (λ k. k < length groups) p (r ∷ ps) a in
      let l : p < length groups = All-head (λ k. k < length groups) p (r ∷ ps) a in
      let m : r < length groups = All-head (λ k. k < length groups) r ps rest in
      let first : is_lt (indexes_cmp (map (key_over rows.kinds groups) q.order) r p) ≡ false =
      up 0 0 (omega arith) (omega arith) in (
        sym (ap is_lt (order_cmp-indexes q.order r p m l)) ∙ first,
        never_steps_back (r ∷ ps) rest
            (λ k d l m. let e : suc k + 1 ≡ suc (k + 1) = omega arith in
            rw e at (up (suc k) d (omega arith) (omega arith))),
      )

-- ---- answers

-- the lines of the groups, sorted by their indexes and cut, are a right answer
pub answers-lines : (q : Query) (rows out : KindedRows) (groups : List (List Row)) (ps : List ℕ)
    → IsPermutation (groups_of q (filter (holds q.filter) rows.rows)) groups
    → AreFirst (is_before (map (key_over rows.kinds groups) q.order)) q.limit
    (range_with_len 0 (length groups)) ps
    → out
    ≡ record {
      kinds = map (item_kind rows.kinds) q.items;
      rows = map (λ at. line_of rows.kinds q.items (get_or groups at [])) ps;
    }
    → Answers q rows out
answers-lines q rows out groups ps perm first o =
    let at = outcome q rows groups in
    let all = range_with_len 0 (length groups) in
    record {
      arrangement = map at first.arrangement;
      all =
          IsPermutation-trans (outcomes_of q rows) (map at all) (map at first.arrangement)
          (subst (IsPermutation (outcomes_of q rows)) (outcomes-indexes q rows groups)
          (outcomes-groups q rows groups perm))
          (IsPermutation-map at all first.arrangement first.all);
      ordered =
          never_steps_back q rows groups first.arrangement
          (indexes_within (length groups) first.arrangement first.all) first.ordered;
      output =
          ap (λ (r : KindedRows). r.rows) o
          ∙ ap (map (λ k. line_of rows.kinds q.items (get_or groups k []))) first.first
          ∙ sym (map-map (λ (l : Outcome). l.output) at (first_of q.limit first.arrangement))
          ∙ ap (map (λ (l : Outcome). l.output)) (sym (cut-map q.limit at first.arrangement));
      kinds = ap (λ (r : KindedRows). r.kinds) o;
    }

-- without ORDER BY the first lines of the groups are a right answer, in any order of the groups
pub answers-unordered : (q : Query) (rows out : KindedRows) (groups : List (List Row)) → q.order ≡ []
    → IsPermutation (groups_of q (filter (holds q.filter) rows.rows)) groups
    → out
    ≡ record {
      kinds = map (item_kind rows.kinds) q.items;
      rows = first_of q.limit (map (line_of rows.kinds q.items) groups);
    }
    → Answers q rows out
answers-unordered q rows out groups e perm o =
    let of_group = outcome_of rows.kinds q in
    record {
      arrangement = map of_group groups;
      all = outcomes-groups q rows groups perm;
      ordered =
          subst (λ keys. NeverStepBack keys (map of_group groups)) (sym e)
          (never_steps_back-unordered (map of_group groups));
      output =
          ap (λ (r : KindedRows). r.rows) o
          ∙ first_of-map q.limit (line_of rows.kinds q.items) groups
          ∙ sym (map-map (λ (l : Outcome). l.output) of_group (first_of q.limit groups))
          ∙ ap (map (λ (l : Outcome). l.output)) (sym (cut-map q.limit of_group groups));
      kinds = ap (λ (r : KindedRows). r.kinds) o;
    }

-- ---- lists of distinct elements

-- what the tests of two elements leave of a third
skipped : (t h : Bool) → (not t && h) ≡ (not t && (t || h))
skipped true h = refl
skipped false h = refl

kept_before : (t c h : Bool) → (t ≡ true → c ≡ false) → (c || (not t && h)) ≡ (not t && (c || h))
kept_before true c h f = ap (λ b. b || false) (f refl)
kept_before false c h f = refl

left_of : (t h : Bool) → (t ≡ true → h ≡ false) → (not t && (t || h)) ≡ h
left_of true h f = sym (f refl)
left_of false h f = refl

and_false : (b : Bool) → (b && false) ≡ false
and_false true = refl
and_false false = refl

-- what holds of each element holds of each that passes a test
each-filter : {X : Type 0} (P : X → Type 0) (p : X → Bool) (xs : List X) → AllByRecursion P xs
    → AllByRecursion P (filter p xs)
each-filter P p [] a = tt
each-filter P p (x ∷ xs) a = by (p x) (each-filter P p xs a.1)
  where
    by : (b : Bool) → AllByRecursion P (filter p xs)
        → AllByRecursion P (cond b (x ∷ filter p xs) (filter p xs))
    by true rest = (a.0, rest)
    by false rest = rest

module _ {X : Type 0} (test : X → X → Bool) (decides : DecidesEqual test) where
  -- the list without an element
  abbrev without : X → List X → List X
  without x xs = filter (λ y. not (test x y)) xs

  -- the test looks alike from both sides
  flips : (x y : X) → test x y ≡ test y x
  flips x y = by (cases_Bool (test x y))
    where
      by : (test x y ≡ true) ⊎ (test x y ≡ false) → test x y ≡ test y x
      by (inl e) = e ∙ sym (ap (λ z. test z x) (sym (decides.equal x y e)) ∙ decides.itself x)
      by (inr e) =
          e ∙ sym (false_from_ne_true (test y x)
          (λ f. true≢false (sym (decides.itself x) ∙ ap (test x) (sym (decides.equal y x f)) ∙ e)))

  -- an element that is none of a list is not in it
  absent : (x : X) (xs : List X) → AllByRecursion (λ y. test x y ≡ false) xs → has test x xs ≡ false
  absent x [] a = refl
  absent x (y ∷ ys) a = λ i. a.0 i || absent x ys a.1 i

  -- and the list stays without it
  without-absent : (x : X) (xs : List X) → AllByRecursion (λ y. test x y ≡ false) xs → without x xs ≡ xs
  without-absent x [] a = refl
  without-absent x (y ∷ ys) a =
      ap (λ b. cond (not b) (y ∷ without x ys) (without x ys)) a.0
      ∙ ap (λ zs. y ∷ zs) (without-absent x ys a.1)

  -- the others stay in the list
  has-without : (z x : X) (xs : List X) → has test z (without x xs) ≡ (not (test x z) && has test z xs)
  has-without z x [] = sym (and_false (not (test x z)))
  has-without z x (y ∷ ys) = by (test x y) refl (has-without z x ys)
    where
      by : (b : Bool) → test x y ≡ b → has test z (without x ys) ≡ (not (test x z) && has test z ys)
          → has test z (cond (not b) (y ∷ without x ys) (without x ys))
          ≡ (not (test x z) && (test z y || has test z ys))
      by true e rest =
          rest ∙ skipped (test x z) (has test z ys)
          ∙ ap (λ c. not (test x z) && (c || has test z ys))
          (flips x z ∙ ap (test z) (decides.equal x y e))
      by false e rest =
          ap (λ c. test z y || c) rest
          ∙ kept_before (test x z) (test z y) (has test z ys)
          (λ f. ap (λ w. test w y) (sym (decides.equal x z f)) ∙ e)

  -- no two are the same of those that pass a test
  distinct-filter : (p : X → Bool) (xs : List X) → IsDistinct test xs → IsDistinct test (filter p xs)
  distinct-filter p [] d = d
  distinct-filter p (x ∷ xs) d = by (p x) (distinct-filter p xs (IsDistinct-tail test x xs d))
    where
      by : (b : Bool) → IsDistinct test (filter p xs)
          → IsDistinct test (cond b (x ∷ filter p xs) (filter p xs))
      by true rest =
          IsDistinct-cons test x (filter p xs)
          (each-filter (λ y. test x y ≡ false) p xs (IsDistinct-head test x xs d)) rest
      by false rest = rest

  -- an element of the list, and the list without it
  taken_out : (x : X) (xs : List X) → has test x xs ≡ true → IsDistinct test xs
      → Shuffle (x ∷ without x xs) xs
  taken_out x [] h d = absurd (true≢false (sym h))
  taken_out x (y ∷ ys) h d =
      by (λ f. taken_out x ys f (IsDistinct-tail test y ys d)) (test x y) refl h
    where
      by : (has test x ys ≡ true → Shuffle (x ∷ without x ys) ys)
          → (b : Bool) → test x y ≡ b → (b || has test x ys) ≡ true
          → Shuffle (x ∷ cond (not b) (y ∷ without x ys) (without x ys)) (y ∷ ys)
      by rest true e f =
          subst (λ z. Shuffle (z ∷ without z ys) (y ∷ ys)) (sym (decides.equal x y e))
          (subst (λ zs. Shuffle (y ∷ zs) (y ∷ ys))
          (sym (without-absent y ys (IsDistinct-head test y ys d))) (same (y ∷ ys)))
      by rest false e f = join flip (keep (rest f))

  -- lists of distinct elements that have the same ones
  distinct-shuffled : (xs ys : List X) → IsDistinct test xs → IsDistinct test ys
      → ((z : X) → has test z xs ≡ has test z ys)
      → Shuffle xs ys
  distinct-shuffled [] [] d e both = none
  distinct-shuffled [] (y ∷ ys) d e both =
      absurd (true≢false (sym (both y ∙ or_left _ _ (decides.itself y))))
  distinct-shuffled (x ∷ xs) ys d e both =
      join
      (keep (distinct-shuffled xs (without x ys) (IsDistinct-tail test x xs d)
      (distinct-filter (λ y. not (test x y)) ys e) others))
      (taken_out x ys (sym (both x) ∙ or_left _ _ (decides.itself x)) e)
    where
      gone : (z : X) → test x z ≡ true → has test z xs ≡ false
      gone z f =
          ap (λ w. has test w xs) (sym (decides.equal x z f)) ∙ absent x xs (IsDistinct-head test x xs d)

      others : (z : X) → has test z xs ≡ has test z (without x ys)
      others z =
          sym (has-without z x ys ∙ ap (λ b. not (test x z) && b) (sym (both z))
          ∙ ap (λ b. not (test x z) && (b || has test z xs)) (flips z x)
          ∙ left_of (test x z) (has test z xs) (gone z))

-- ---- groups by keys

-- the groups by keys in any order are the groups of the definition
pub groups_in-permutation : (exprs : List Expr) (rows keys : List Row) → AreKeys exprs rows keys
    → IsPermutation (groups_by exprs rows) (groups_in exprs keys rows)
groups_in-permutation exprs rows keys are =
    let all = map (key_of exprs) rows in
    let once = distinct_rows_stand_once all in
    IsPermutation-map (λ key. filter (λ row. same_row key (key_of exprs row)) rows) (distinct_rows all) keys
    (permutation
    (distinct-shuffled same_row same_row_decides (distinct_rows all) keys once.0 are.once
    (λ key. once.1 key ∙ sym (are.each key))))

-- ---- columns as lines

module _ (columns : List Kind) (groups : List (List Row)) where
  -- the values of the columns at one index
  row_at-lines : (items : List Item) (at : ℕ) → at < length groups
      → row_at (values_of (map (column_over columns groups) items)) at
      ≡ line_of columns items (get_or groups at [])
  row_at-lines [] at l = refl
  row_at-lines (item ∷ items) at l =
      λ i. get_or-map (λ group. item_value columns group item) groups at [] (values.Num 0) l i
      ∷ row_at-lines items at l i

  -- each column has a value for each group
  columns_long : (items : List Item)
      → AllByRecursion (λ (c : KindedValues). length c.values ≡ length groups)
      (map (column_over columns groups) items)
  columns_long [] = tt
  columns_long (item ∷ items) =
      (length-map groups (λ group. item_value columns group item), columns_long items)

  pub columns-lengths : (items : List Item)
      → All (λ (c : KindedValues). length c.values ≡ length groups) (map (column_over columns groups) items)
  columns-lengths items =
      All-from_recursion (λ (c : KindedValues). length c.values ≡ length groups)
      (map (column_over columns groups) items) (columns_long items)

  -- their rows are the lines
  pub rows_in_columns-lines : (items : List Item)
      → rows_in_columns (map (column_over columns groups) items) (length groups) ≡ lines_of columns items groups
  rows_in_columns-lines items = λ i. record { kinds = kinds i; rows = lines i }
    where
      kinds : kinds_of (map (column_over columns groups) items) ≡ map (item_kind columns) items
      kinds = map-map (λ (c : KindedValues). c.kind) (column_over columns groups) items

      at : ℕ → Row
      at = row_at (values_of (map (column_over columns groups) items))

      lines : map at (range_with_len 0 (length groups)) ≡ map (line_of columns items) groups
      lines = by_indexes at (line_of columns items) groups [] (row_at-lines items)

  -- the lines at indexes are those of the groups at them
  pub rows_at-lines : (items : List Item) (ps : List ℕ) → All (λ at. at < length groups) ps
      → rows_at (lines_of columns items groups).rows ps
      ≡ map (λ at. line_of columns items (get_or groups at [])) ps
  rows_at-lines items ps a =
      at-indexes (length groups) _ _ ps a (λ k l. get_or-map (line_of columns items) groups k [] [] l)
