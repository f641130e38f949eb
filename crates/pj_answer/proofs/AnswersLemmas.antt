-- Right answers of a query don't depend on the order of the rows.
use Rattle.std.proofs.Common.{◌≡◌, Bool, true, false, cond, List, [], ◌∷◌, length, map}
use Rattle.std.proofs.Common.{refl, sym, ap, ◌∙◌, subst, arith, true≢false}
use Rattle.std.specs.Prelude.{if◌then◌else◌}
use Rattle.std.specs.List.{AllByRecursion, filter}
use Rattle.std.specs.List.Sorted.{IsPermutation}
use Rattle.std.proofs.lemmas.List.Sorted.{IsPermutation-trans, IsPermutation-sym}
use Rattle.pj_value.specs.declared.value.Kind.{Kind}
use Rattle.pj_value.specs.Rows.{KindedRows}
use Rattle.pj_expr.specs.declared.expr.Expr.{Expr}
use Rattle.pj_expr.specs.declared.query.Query.{Query}
use Rattle.pj_expr.specs.Eval.{holds}
use Rattle.pj_expr.specs.Fits.{IsOfGroup, is_grouped, aggregates_rows}
use Rattle.pj_answer.specs.Answers.{Row, same_row, distinct_rows, key_of, groups_by, groups_of}
use Rattle.pj_answer.specs.Answers.{first_row, item_kind, outcome_of, outcomes_of, Outcome}
use Rattle.pj_answer.specs.Laws.{AnswersIgnoreTheOrder, SameRowsAreEqual, DistinctRowsStandOnce}
use Rattle.pj_answer.proofs.Shuffles.{Shuffle, same, mapped, filtered, as_long, from_permutation, permutation}
use Rattle.pj_answer.proofs.OnceLemmas.{once-shuffled, has-once, IsDistinct-once}
use Rattle.pj_answer.proofs.orders.ValueOrder.{same_row_decides}
use Rattle.pj_answer.proofs.GroupLemmas.{outcome_of-shuffled}

-- ---- rows once each

-- the distinct rows of lists with the same rows
distinct_rows-shuffled : {rs ss : List Row} → Shuffle rs ss → Shuffle (distinct_rows rs) (distinct_rows ss)
distinct_rows-shuffled s = once-shuffled same_row same_row_decides s

-- the test of rows says whether they are equal
pub same_rows_are_equal : SameRowsAreEqual
same_rows_are_equal a b =
    (same_row_decides.equal a b, λ e. subst (λ c. same_row a c ≡ true) e (same_row_decides.itself a))

-- the distinct rows of a list are its rows, and no two of them are the same
pub distinct_rows_stand_once : DistinctRowsStandOnce
distinct_rows_stand_once rows =
    (IsDistinct-once same_row same_row_decides rows, λ row. has-once same_row same_row_decides row rows)

-- ---- groups

-- the rows with these values of GROUP BY
abbrev group : List Expr → List Row → Row → List Row
group keys rows values = filter (λ row. same_row values (key_of keys row)) rows

-- the rows of a group have its values
group-values : (keys : List Expr) (values : Row) (rows : List Row)
    → AllByRecursion (λ row. key_of keys row ≡ values) (group keys rows values)
group-values keys values [] = tt
group-values keys values (row ∷ rows) =
    by (same_row values (key_of keys row)) refl (group-values keys values rows)
  where
    by : (b : Bool) → same_row values (key_of keys row) ≡ b
        → AllByRecursion (λ r. key_of keys r ≡ values) (group keys rows values)
        → AllByRecursion (λ r. key_of keys r ≡ values)
        (cond b (row ∷ group keys rows values) (group keys rows values))
    by true e rest = (sym (same_row_decides.equal values (key_of keys row) e), rest)
    by false e rest = rest

-- the first rows of two groups have their values in common
alike-first : (keys : List Expr) (values : Row) (g h : List Row) → length g ≡ length h
    → AllByRecursion (λ row. key_of keys row ≡ values) g → AllByRecursion (λ row. key_of keys row ≡ values) h
    → key_of keys (first_row g) ≡ key_of keys (first_row h)
alike-first keys values [] [] long a b = refl
alike-first keys values [] (s ∷ h) long a b = absurd (omega arith)
alike-first keys values (r ∷ g) [] long a b = absurd (omega arith)
alike-first keys values (r ∷ g) (s ∷ h) long a b = a.0 ∙ sym b.0

-- without GROUP BY all rows have their values in common
alike-ungrouped : (keys : List Expr) (r s : Row) → is_grouped keys ≡ false → key_of keys r ≡ key_of keys s
alike-ungrouped [] r s e = refl
alike-ungrouped (x ∷ keys) r s e = absurd (true≢false e)

-- ---- outcomes

-- the items and order keys of a query that aggregates are of its groups
abbrev AreOfGroups : Query → Type 0
AreOfGroups q = aggregates_rows q ≡ true
    → AllByRecursion (IsOfGroup q.groups) q.items × AllByRecursion (λ by. IsOfGroup q.groups by.item) q.order

-- the outcomes of groups
abbrev outcomes : List Kind → Query → List (List Row) → List Outcome
outcomes columns q groups = map (outcome_of columns q) groups

-- the groups of rows, by whether the query aggregates and has a GROUP BY
abbrev groups : List Expr → Bool → Bool → List Row → List (List Row)
groups keys aggregates grouped rows =
    if aggregates then (if grouped then groups_by keys rows else rows ∷ []) else map (λ row. row ∷ []) rows

module _ (columns : List Kind) (q : Query) (rs ss : List Row) (moved : Shuffle rs ss)
    (fits : AreOfGroups q) where
  -- the outcome for values of GROUP BY
  outcome-same : aggregates_rows q ≡ true → (values : Row)
      → outcome_of columns q (group q.groups rs values) ≡ outcome_of columns q (group q.groups ss values)
  outcome-same a values =
      let g = group q.groups rs values in
      let h = group q.groups ss values in
      let s = filtered (λ row. same_row values (key_of q.groups row)) moved in
      let first = group-values q.groups values rs in
      let second = group-values q.groups values ss in
      let alike = alike-first q.groups values g h (as_long s) first second in
      outcome_of-shuffled columns q g h s alike (fits a).0 (fits a).1

  -- the outcomes for some values of GROUP BY
  outcomes-same : aggregates_rows q ≡ true → (keys : List Row)
      → outcomes columns q (map (group q.groups rs) keys) ≡ outcomes columns q (map (group q.groups ss) keys)
  outcomes-same a [] = refl
  outcomes-same a (values ∷ keys) = λ i. outcome-same a values i ∷ outcomes-same a keys i

  -- the outcomes by GROUP BY
  grouped-shuffled : aggregates_rows q ≡ true
      → Shuffle (outcomes columns q (groups_by q.groups rs)) (outcomes columns q (groups_by q.groups ss))
  grouped-shuffled a =
      let keys = distinct_rows-shuffled (mapped (key_of q.groups) moved) in
      subst (Shuffle (outcomes columns q (groups_by q.groups rs)))
      (outcomes-same a (distinct_rows (map (key_of q.groups) ss)))
      (mapped (outcome_of columns q) (mapped (group q.groups rs) keys))

  -- the outcome of all rows together
  whole-shuffled : aggregates_rows q ≡ true → is_grouped q.groups ≡ false
      → Shuffle (outcomes columns q (rs ∷ [])) (outcomes columns q (ss ∷ []))
  whole-shuffled a e =
      let alike = alike-ungrouped q.groups (first_row rs) (first_row ss) e in
      let outcome = outcome_of-shuffled columns q rs ss moved alike (fits a).0 (fits a).1 in
      subst (λ l. Shuffle (outcomes columns q (rs ∷ [])) (l ∷ [])) outcome (same _)

  -- the outcomes of the groups, of whatever form the query is
  pub outcomes-shuffled : Shuffle (outcomes columns q (groups_of q rs)) (outcomes columns q (groups_of q ss))
  outcomes-shuffled = by (aggregates_rows q) refl (is_grouped q.groups) refl
    where
      by : (a : Bool) → aggregates_rows q ≡ a → (b : Bool) → is_grouped q.groups ≡ b
          → Shuffle (outcomes columns q (groups q.groups a b rs)) (outcomes columns q
          (groups q.groups a b ss))
      by false e b f = mapped (outcome_of columns q) (mapped (λ row. row ∷ []) moved)
      by true e true f = grouped-shuffled e
      by true e false f = whole-shuffled e f

-- the outcomes of a query over the same rows in another order
outcomes_of-permuted : (q : Query) (rows other : KindedRows) → AreOfGroups q → rows.kinds ≡ other.kinds
    → IsPermutation rows.rows other.rows → IsPermutation (outcomes_of q rows) (outcomes_of q other)
outcomes_of-permuted q rows other fits kinds moved =
    let kept = filter (holds q.filter) other.rows in
    let s = filtered (holds q.filter) (from_permutation rows.rows other.rows moved) in
    subst (λ ks. IsPermutation (outcomes_of q rows) (outcomes ks q (groups_of q kept))) kinds
    (permutation (outcomes-shuffled rows.kinds q (filter (holds q.filter) rows.rows) kept s fits))

-- right answers of a query that fits don't depend on the order of the rows
pub answers_ignore_the_order : AnswersIgnoreTheOrder
answers_ignore_the_order q rows other out fits shape kinds moved a =
    let of_groups : AreOfGroups q = λ e. (fits.groups.items e, fits.groups.order e) in
    let permuted = outcomes_of-permuted q rows other of_groups kinds moved in
    record {
      arrangement = a.arrangement;
      all =
          IsPermutation-trans (outcomes_of q other) (outcomes_of q rows) a.arrangement
          (IsPermutation-sym (outcomes_of q rows) (outcomes_of q other) permuted) a.all;
      ordered = a.ordered;
      output = a.output;
      kinds = a.kinds ∙ ap (λ ks. map (item_kind ks) q.items) kinds;
    }
