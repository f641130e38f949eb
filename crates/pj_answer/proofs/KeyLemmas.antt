-- Keys of rows, and the groups of the rows with one key.
use Rattle.std.proofs.Common.{◌≡◌, ℕ, ◌+◌, ◌<◌, Bool, true, false, not, cond, ◌||◌}
use Rattle.std.proofs.Common.{List, [], ◌∷◌, ◌++◌, length, map, get_or, drop}
use Rattle.std.proofs.Common.{refl, sym, ap, ◌∙◌, subst, arith, append_assoc, true≢false}
use Rattle.std.specs.Prelude.{if◌then◌else◌}
use Rattle.std.specs.List.{filter, range_with_len, All, AllByRecursion}
use Rattle.std.proofs.lemmas.Bool.{or_left, or_right}
use Rattle.std.proofs.lemmas.List.{drop_at, get_or_at, get_or-map, length-map, length_push, same_lists}
use Rattle.std.proofs.lemmas.List.FromFn.{length-map-range_with_len, get_or-map-range_with_len}
use Rattle.std.proofs.lemmas.List.Elements.{All-from_recursion}
use Rattle.std.proofs.lemmas.Simd.{map-map}
use Rattle.pj_value.specs.declared.value.Kind.{Kind}
use Rattle.pj_value.specs.declared.value.Value.TheVariants as values
use Rattle.pj_value.specs.Values.{kind_of}
use Rattle.pj_value.specs.Columns.{KindedValues, values_of, row_at}
use Rattle.pj_value.specs.Rows.{KindedRows, HaveKinds, rows_at, rows_in, rows_joined}
use Rattle.pj_expr.specs.declared.expr.Expr.{Expr}
use Rattle.pj_expr.specs.Eval.{eval}
use Rattle.pj_answer.specs.Answers.{Row, same_row, has_row, distinct_rows, key_of, groups_by, first_row}
use Rattle.pj_answer.specs.Rows.{of_kinds}
use Rattle.pj_answer.specs.Groups.{values_for, comes_again, last_indexes, group_like}
use Rattle.pj_answer.proofs.OnceLemmas.{has-once}
use Rattle.pj_block.proofs.IndexLemmas.{filter-same, kept-indexes}
use Rattle.pj_block.proofs.RowLemmas.{map-same}
use Rattle.pj_answer.proofs.orders.ValueOrder.{same_row_decides}

-- ---- distinct rows, by their indexes

-- one index more, where the row doesn't come again
chosen : (g : ℕ → Row) (b : Bool) (at : ℕ) (row : Row) (ks : List ℕ) (rows : List Row) → g at ≡ row
    → map g ks ≡ rows
    → map g (cond (not b) (at ∷ ks) ks) ≡ (if b then rows else row ∷ rows)
chosen g true at row ks rows e f = f
chosen g false at row ks rows e f = λ i. e i ∷ f i

last_from : (front rows : List Row) (at : ℕ) → length front ≡ at
    → rows_at (front ++ rows)
    (filter (λ k. not (comes_again (front ++ rows) k)) (range_with_len at (length rows)))
    ≡ distinct_rows rows
last_from front [] at e = refl
last_from front (row ∷ rows) at e =
    let all = front ++ row ∷ rows in
    let here : get_or all at [] ≡ row = get_or_at front row rows [] at e in
    let moved : (front ++ row ∷ []) ++ rows ≡ all = append_assoc front (row ∷ []) rows in
    let long : length (front ++ row ∷ []) ≡ at + 1 = length_push front row ∙ ap (λ k. k + 1) e in
    let behind : drop (at + 1) all ≡ rows =
    ap (drop (at + 1)) (sym moved) ∙ drop_at (front ++ row ∷ []) rows (at + 1) long in
    let again : comes_again all at ≡ has_row row rows = λ i. has_row (here i) (behind i) in
    let ks = filter (λ k. not (comes_again all k)) (range_with_len (at + 1) (length rows)) in
    let rest : map (λ k. get_or all k []) ks ≡ distinct_rows rows =
    rw moved at (last_from (front ++ row ∷ []) rows (at + 1) long) in
    ap (λ b. map (λ k. get_or all k []) (cond (not b) (at ∷ ks) ks)) again
    ∙ chosen (λ k. get_or all k []) (has_row row rows) at row ks (distinct_rows rows) here rest

-- the rows that don't come again are the distinct rows
pub rows_at-last_indexes : (rows : List Row) → rows_at rows (last_indexes rows) ≡ distinct_rows rows
rows_at-last_indexes rows = last_from [] rows 0 refl

-- ---- groups, by the indexes of their rows

-- the rows with this key
abbrev with_key : List Expr → List Row → Row → List Row
with_key exprs rows key = filter (λ row. same_row key (key_of exprs row)) rows

with_key-indexes : (exprs : List Expr) (rows : List Row) (key : Row)
    → rows_at rows
    (filter (λ k. same_row key (get_or (map (key_of exprs) rows) k []))
    (range_with_len 0 (length (map (key_of exprs) rows))))
    ≡ with_key exprs rows key
with_key-indexes exprs rows key =
    let keys = map (key_of exprs) rows in
    let p = λ (k : ℕ). same_row key (get_or keys k []) in
    let q = λ (k : ℕ). same_row key (key_of exprs (get_or rows k [])) in
    ap (rows_at rows)
    (ap (λ n. filter p (range_with_len 0 n)) (length-map rows (key_of exprs))
    ∙ filter-same p q 0 (length rows)
    (λ k l. let m : k < length rows = omega arith in
    ap (same_row key) (get_or-map (key_of exprs) rows k [] [] m)))
    ∙ kept-indexes (λ row. same_row key (key_of exprs row)) [] rows

-- the groups by the keys at the last indexes are those of the definition
pub groups_by-indexes : (exprs : List Expr) (held : KindedRows)
    → map (group_like held (map (key_of exprs) held.rows)) (last_indexes (map (key_of exprs) held.rows))
    ≡ map (of_kinds held.kinds) (groups_by exprs held.rows)
groups_by-indexes exprs held =
    let keys = map (key_of exprs) held.rows in
    let group = with_key exprs held.rows in
    let made = λ (key : Row). of_kinds held.kinds (group key) in
    let key = λ (at : ℕ). get_or keys at [] in
    map-same (group_like held keys) (λ at. made (key at)) (last_indexes keys)
    (λ at. ap (of_kinds held.kinds) (with_key-indexes exprs held.rows (key at)))
    ∙ sym (map-map made key (last_indexes keys)) ∙ ap (map made) (rows_at-last_indexes keys)
    ∙ sym (map-map (of_kinds held.kinds) group (distinct_rows keys))

-- ---- first rows

-- a row that is kept by its key is of the kinds
first-keyed : (columns : List Kind) (exprs : List Expr) (key : Row) (rows : List Row)
    → HaveKinds columns rows
    → has_row key (map (key_of exprs) rows) ≡ true
    → map kind_of (first_row (with_key exprs rows key)) ≡ columns
first-keyed columns exprs key [] s e = absurd (true≢false (sym e))
first-keyed columns exprs key (row ∷ rows) s e =
    by (first-keyed columns exprs key rows s.1) (same_row key (key_of exprs row)) e
  where
    by : (has_row key (map (key_of exprs) rows) ≡ true
        → map kind_of (first_row (with_key exprs rows key)) ≡ columns)
        → (b : Bool) → (b || has_row key (map (key_of exprs) rows)) ≡ true
        → map kind_of
        (first_row (cond b (row ∷ with_key exprs rows key) (with_key exprs rows key)))
        ≡ columns
    by rest true e = s.0
    by rest false e = rest e

-- each of the rows is among them
each-in : (xs ys : List Row) → ((row : Row) → has_row row xs ≡ true → has_row row ys ≡ true)
    → AllByRecursion (λ row. has_row row ys ≡ true) xs
each-in [] ys f = tt
each-in (x ∷ xs) ys f = (
  f x (or_left _ _ (same_row_decides.itself x)),
  each-in xs ys (λ row h. f row (or_right _ _ h)),
)

-- the first row of each group by GROUP BY is of the kinds: no group is empty
pub groups_by-first : (columns : List Kind) (exprs : List Expr) (rows : List Row) → HaveKinds columns rows
    → AllByRecursion (λ group. map kind_of (first_row group) ≡ columns) (groups_by exprs rows)
groups_by-first columns exprs rows s =
    over (distinct_rows keys)
    (each-in (distinct_rows keys) keys
    (λ row h. sym (has-once same_row same_row_decides row keys) ∙ h))
  where
    keys : List Row
    keys = map (key_of exprs) rows

    over : (ks : List Row) → AllByRecursion (λ key. has_row key keys ≡ true) ks
        → AllByRecursion (λ group. map kind_of (first_row group) ≡ columns) (map (with_key exprs rows) ks)
    over [] a = tt
    over (key ∷ ks) a = (first-keyed columns exprs key rows s a.0, over ks a.1)

-- ---- keys in columns

module _ (rows : List Row) where
  -- the values of the expressions at one row
  row_at-keys : (exprs : List Expr) (at : ℕ) → at < length rows
      → row_at (map (values_for rows) exprs) at ≡ key_of exprs (get_or rows at [])
  row_at-keys [] at l = refl
  row_at-keys (e ∷ exprs) at l =
      λ i. get_or-map (λ row. eval e row) rows at [] (values.Num 0) l i ∷ row_at-keys exprs at l i

  -- each column has a value for each row
  columns_long : (exprs : List Expr) (columns : List KindedValues)
      → values_of columns ≡ map (values_for rows) exprs
      → AllByRecursion (λ (c : KindedValues). length c.values ≡ length rows) columns
  columns_long exprs [] e = tt
  columns_long [] (c ∷ columns) e = absurd (cc)
  columns_long (x ∷ exprs) (c ∷ columns) e =
      let first : c.values ≡ values_for rows x = (cc) in
      (ap length first ∙ length-map rows (λ row. eval x row), columns_long exprs columns (cc))

  module _ (exprs : List Expr) (columns : List KindedValues) (some : 0 < length exprs)
      (are : values_of columns ≡ map (values_for rows) exprs) where
    -- as many columns as expressions
    columns_some : 0 < length columns
    columns_some =
        omega (
          arith,
          length-map columns (λ (c : KindedValues). c.values),
          length-map exprs (values_for rows),
          ap length are,
        )

    -- as many rows as there were
    rows_in-keys : rows_in columns ≡ length rows
    rows_in-keys = by columns columns_some (columns_long exprs columns are)
      where
        by : (cs : List KindedValues) → 0 < length cs
            → AllByRecursion (λ (c : KindedValues). length c.values ≡ length rows) cs
            → rows_in cs ≡ length rows
        by [] l a = absurd (omega arith)
        by (c ∷ cs) l a = a.0

    -- each column has a value for each of these rows
    pub keys-lengths : All (λ (c : KindedValues). length c.values ≡ rows_in columns) columns
    keys-lengths =
        All-from_recursion (λ (c : KindedValues). length c.values ≡ rows_in columns) columns
        (subst (λ n. AllByRecursion (λ (c : KindedValues). length c.values ≡ n) columns) (sym rows_in-keys)
        (columns_long exprs columns are))

    -- the rows of the columns are the keys
    pub rows_joined-keys : (rows_joined columns).rows ≡ map (key_of exprs) rows
    rows_joined-keys =
        let n = length rows in
        let f = row_at (map (values_for rows) exprs) in
        let g = key_of exprs in
        (λ i. map (row_at (are i)) (range_with_len 0 (rows_in-keys i)))
        ∙ same_lists (map f (range_with_len 0 n)) (map g rows)
        (length-map-range_with_len f 0 n ∙ sym (length-map rows g))
        (λ k d l.
        let m : k < n = omega (arith, length-map-range_with_len f 0 n, l) in
        get_or-map-range_with_len f 0 n k k d m (omega arith) ∙ row_at-keys exprs k m
        ∙ sym (get_or-map g rows k [] d m))
