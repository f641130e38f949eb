-- Counts of the rows that are kept, and the answers that are made of them.
use Rattle.std.proofs.Common.{◌≡◌, ℕ, zero, suc, ◌<◌, ◌^◌, ◌%◌, Bool, true, false, cond, ◌&&◌, not}
use Rattle.std.proofs.Common.{List, [], ◌∷◌}
use Rattle.std.proofs.Common.{length, map, Option, Some, None, refl, sym, ap, subst, ◌∙◌, arith, true≢false}
use Rattle.std.specs.List.{filter, list_all, AllByRecursion}
use Rattle.std.proofs.lemmas.List.Sorted.{IsPermutation-refl}
use Rattle.std.specs.Prelude.{is_none, if◌then◌else◌}
use Rattle.std.proofs.lemmas.List.{take_all}
use Rattle.pj_value.specs.declared.value.Kind.{Kind}
use Rattle.pj_value.specs.declared.value.Kind.TheVariants as kinds
use Rattle.pj_value.specs.declared.value.Value.TheVariants as values
use Rattle.pj_value.specs.declared.value.AggKind.{AggKind}
use Rattle.pj_value.specs.Rows.{KindedRows}
use Rattle.pj_value.specs.Values.{kind_of}
use Rattle.pj_expr.specs.declared.expr.Expr.{Expr}
use Rattle.pj_expr.specs.declared.query.Item.{Item}
use Rattle.pj_expr.specs.declared.query.Item.TheVariants.{Plain, Agg}
use Rattle.pj_expr.specs.declared.query.Query.{Query}
use Rattle.pj_expr.specs.Eval.{holds}
use Rattle.pj_expr.specs.Fits.{FitsItem, FitsQuery, IsOfGroup, aggregates_rows, is_grouped}
use Rattle.pj_answer.specs.Answers.{Row, Outcome, Answers, outcome_of, groups_of, cut, item_value, item_kind}
use Rattle.pj_answer.specs.Answers.{call_value, call_kind, first_row, or_number}
use Rattle.pj_expr.proofs.KindLemmas.{kind_of-built}
use Rattle.pj_answer.proofs.GroupLemmas.{eval-built}
use Rattle.pj_group.specs.Counts.{counts_alone, only_counts, leaves_row, value_with, counts_of}

-- the tests of rows, counted
pub filter-tests : {X : Type 0} (p : X → Bool) (xs : List X)
    → length (filter (λ b. b) (map p xs)) ≡ length (filter p xs)
filter-tests p [] = refl
filter-tests p (x ∷ xs) = by (p x) (filter-tests p xs)
  where
    by : (b : Bool) → length (filter (λ c. c) (map p xs)) ≡ length (filter p xs)
        → length (cond b (b ∷ filter (λ c. c) (map p xs)) (filter (λ c. c) (map p xs)))
        ≡ length (cond b (x ∷ filter p xs) (filter p xs))
    by true e = ap suc e
    by false e = e

-- both tests hold
both : (a b : Bool) → (a && b) ≡ true → (a ≡ true) × (b ≡ true)
both true true e = (refl, refl)
both true false e = absurd (true≢false (sym e))
both false b e = absurd (true≢false (sym e))

-- what isn't grouped is one group
ungrouped : (q : Query) (rows : List Row) → aggregates_rows q ≡ true → not (is_grouped q.groups) ≡ true
    → groups_of q rows ≡ rows ∷ []
ungrouped q rows a g = by (is_grouped q.groups) refl g
  where
    by : (b : Bool) → is_grouped q.groups ≡ b → not b ≡ true → groups_of q rows ≡ rows ∷ []
    by true e h = absurd (true≢false (sym h))
    by false e h = rw (a, e) refl

-- a query that isn't grouped has no values of GROUP BY
no_groups : (groups : List Expr) → not (is_grouped groups) ≡ true → groups ≡ []
no_groups [] h = refl
no_groups (e ∷ es) h = absurd (true≢false (sym h))

-- its items are calls, or built of literals
built : (columns : List Kind) (q : Query) → FitsQuery columns q → aggregates_rows q ≡ true
    → not (is_grouped q.groups) ≡ true → AllByRecursion (IsOfGroup []) q.items
built columns q f a g =
    subst (λ (es : List Expr). AllByRecursion (IsOfGroup es) q.items) (no_groups q.groups g)
    (f.groups.items a)

module _ (columns : List Kind) (row : Row) (n : ℕ) where
  -- what an item gives is of its kind
  kind_of-value : (item : Item) → FitsItem columns item → IsOfGroup [] item → counts_alone item ≡ true
      → kind_of (value_with row n item) ≡ item_kind columns item
  kind_of-value (Plain e) f b c = kind_of-built columns row e f.0 b f.1 ∙ sym (ap or_number f.1)
  kind_of-value (Agg call) f b c = sym (kind_of-count call.kind call.argument c)
    where
      kind_of-count : (kind : AggKind) (argument : Option Expr) → is_none argument ≡ true
          → call_kind columns kind argument ≡ kinds.Num
      kind_of-count kind None e = refl
      kind_of-count kind (Some x) e = absurd (true≢false (sym e))

  kinds-values : (items : List Item) → AllByRecursion (FitsItem columns) items
      → AllByRecursion (IsOfGroup []) items → list_all counts_alone items ≡ true
      → map kind_of (map (value_with row n) items) ≡ map (item_kind columns) items
  kinds-values [] f b c = refl
  kinds-values (item ∷ items) f b c =
      let d : (counts_alone item ≡ true) × (list_all counts_alone items ≡ true) = both _ _ c in
      λ i. kind_of-value item f.0 b.0 d.0 i ∷ kinds-values items f.1 b.1 d.1 i

  module _ (kept : List Row) (l : n ≡ length kept) (s : n < 2 ^ 64) where
    -- what an item gives for the rows that are kept
    value-count : (item : Item) → IsOfGroup [] item → counts_alone item ≡ true
        → value_with row n item ≡ item_value columns kept item
    value-count (Plain e) b c = eval-built [] row (first_row kept) refl b
    value-count (Agg call) b c = by call.kind call.argument c
      where
        by : (kind : AggKind) (argument : Option Expr) → is_none argument ≡ true
            → values.Num n ≡ call_value columns kind argument kept
        by kind None e = ap values.Num (sym (ap (λ m. m % 2 ^ 64) (sym l) ∙ omega arith))
        by kind (Some x) e = absurd (true≢false (sym e))

    values-counts : (items : List Item) → AllByRecursion (IsOfGroup []) items
        → list_all counts_alone items ≡ true
        → map (value_with row n) items ≡ map (item_value columns kept) items
    values-counts [] b c = refl
    values-counts (item ∷ items) b c =
        let d : (counts_alone item ≡ true) × (list_all counts_alone items ≡ true) = both _ _ c in
        λ i. value-count item b.0 d.0 i ∷ values-counts items b.1 d.1 i

-- LIMIT leaves one outcome or none
cut-outcome : (limit : Option ℕ) (outcome : Outcome)
    → (if leaves_row limit then outcome.output ∷ [] else [])
    ≡ map (λ (l : Outcome). l.output) (cut limit (outcome ∷ []))
cut-outcome None outcome = refl
cut-outcome (Some zero) outcome = refl
cut-outcome (Some (suc n)) outcome =
    ap (λ (ls : List Outcome). outcome.output ∷ map (λ (l : Outcome). l.output) ls) (sym (take_all n []
    (omega arith)))

-- what the items give is of their kinds
pub kinds-counts : (columns : List Kind) (row : Row) (n : ℕ) (q : Query) → FitsQuery columns q
    → aggregates_rows q ≡ true → only_counts q ≡ true
    → map kind_of (map (value_with row n) q.items) ≡ map (item_kind columns) q.items
kinds-counts columns row n q f a c =
    let b : (list_all counts_alone q.items ≡ true) × (not (is_grouped q.groups) ≡ true) = both _ _ c in
    kinds-values columns row n q.items f.kinds.items (built columns q f a b.1) b.0

-- counts are the answer
pub answers-counts : (q : Query) (rows out : KindedRows) (n : ℕ) → FitsQuery rows.kinds q
    → aggregates_rows q ≡ true → only_counts q ≡ true → n ≡ length (filter (holds q.filter) rows.rows)
    → n < 2 ^ 64 → out ≡ counts_of q rows n → Answers q rows out
answers-counts q rows out n f a c l s e =
    let kept = filter (holds q.filter) rows.rows in
    let outcome = outcome_of rows.kinds q kept in
    let b : (list_all counts_alone q.items ≡ true) × (not (is_grouped q.groups) ≡ true) = both _ _ c in
    record {
      arrangement = outcome ∷ [];
      all = rw (ungrouped q kept a b.1) (IsPermutation-refl (outcome ∷ []));
      ordered = tt;
      output =
          ap (λ (r : KindedRows). r.rows) e
          ∙ ap (λ vs. if leaves_row q.limit then vs ∷ [] else [])
          (values-counts rows.kinds (first_row rows.rows) n kept l s q.items
          (built rows.kinds q f a b.1) b.0)
          ∙ cut-outcome q.limit outcome;
      kinds = ap (λ (r : KindedRows). r.kinds) e;
    }
