-- The lines of the first rows: what is held of them, and the answer that they give.
use Rattle.std.proofs.Common.{◌≡◌, ℕ, suc, ◌+◌, ◌<◌, Bool, true, false, List, [], ◌∷◌}
use Rattle.std.proofs.Common.{length, map, get_or, Option, Some}
use Rattle.std.proofs.Common.{refl, sym, ap, ◌∙◌, subst, arith, true≢false}
use Rattle.std.specs.List.{All, AllZip, filter, range_with_len}
use Rattle.std.specs.List.Sorted.{IsPermutation, IsSortedBy}
use Rattle.std.specs.Ordering.{is_lt}
use Rattle.std.proofs.lemmas.List.{length-map, get_or-map}
use Rattle.std.proofs.lemmas.List.Elements.{All-weaker, All-head, All-tail}
use Rattle.std.proofs.lemmas.List.Sorted.{IsPermutation-map}
use Rattle.std.proofs.lemmas.Simd.{map-map}
use Rattle.pj_value.specs.declared.value.Kind.{Kind}
use Rattle.pj_value.specs.declared.value.Value.{Value}
use Rattle.pj_value.specs.declared.value.Value.TheVariants as values
use Rattle.pj_value.specs.Columns.{KindedValues, values_at}
use Rattle.pj_value.specs.Rows.{KindedRows, rows_at}
use Rattle.pj_expr.specs.declared.query.Item.{Item}
use Rattle.pj_expr.specs.declared.query.Item.TheVariants.{Plain, Agg}
use Rattle.pj_expr.specs.declared.query.OrderKey.{OrderKey}
use Rattle.pj_expr.specs.declared.query.Query.{Query}
use Rattle.pj_expr.specs.Eval.{eval, holds}
use Rattle.pj_expr.specs.Fits.{is_call, aggregates_rows}
use Rattle.pj_answer.specs.Answers.{Row, Outcome, Answers, NeverStepBack, outcome_of, outcomes_of, order_cmp}
use Rattle.pj_answer.specs.Answers.{first_row, item_value, item_kind}
use Rattle.pj_answer.specs.Rows.{first_of}
use Rattle.pj_answer.proofs.ShapeLemmas.{groups_row}
use Rattle.pj_answer.proofs.AnswerLemmas.{indexes_within}
use Rattle.pj_group.specs.Indexes.{is_before}
use Rattle.pj_group.specs.Least.{AreFirst}
use Rattle.pj_group.specs.Lines.{line_of, lines_of, column_over, key_over, keys_in_columns, AreFirstLines}
use Rattle.pj_group.specs.Slots.{column_at}
use Rattle.pj_group.specs.Standing.{comes_before, KeepsFirstRows, HoldsRows, HoldsGroups}
use Rattle.pj_group.specs.Standing.{IsSlot, StandsFor, all_items}
use Rattle.pj_group.specs.declared.groups.Groups.{Groups}
use Rattle.pj_group.specs.declared.forms.Form.{Form}
use Rattle.pj_group.specs.declared.forms.Form.TheVariants.{Each, One, By}
use Rattle.pj_group.proofs.ArrangedLemmas.{keys_in_columns-over, answers-arranged}
use Rattle.pj_group.proofs.HeldLemmas.{HoldsGroups-permutation, all_items-calls}
use Rattle.pj_group.proofs.LineLemmas.{at-indexes, AreFirst-within, order_cmp-indexes, rows_at-lines}
use Rattle.pj_group.proofs.LineLemmas.{cut-map, first_of-map, columns-lengths}
use Rattle.pj_group.proofs.FirstRowLemmas.{IsSortedBy-map, at_all, AreFirst-held, rows_ranked, HoldsRows-cut}

-- ---- rows by their indexes

-- each row by itself
abbrev pub alone : List Row → List (List Row)
alone rows = map (λ row. row ∷ []) rows

module _ (columns : List Kind) (q : Query) (held : List Row) where
  -- the group at an index
  group-at : (at : ℕ) → at < length held → get_or (alone held) at [] ≡ get_or held at [] ∷ []
  group-at at l = get_or-map (λ row. row ∷ []) held at [] [] l

  -- the keys of the rows stand at indexes as the rows do
  is_before-rows : (a b : ℕ) → a < length held → b < length held
      → is_before (map (key_over columns (alone held)) q.order) a b
      ≡ comes_before columns q (get_or held a []) (get_or held b [])
  is_before-rows a b l m =
      let n = length-map held (λ row. row ∷ []) in
      ap is_lt
      (order_cmp-indexes q (record { kinds = columns; rows = [] }) (alone held) q.order a b (omega (arith, l, n))
      (omega (arith, m, n))
      ∙ (λ i. order_cmp q.order (map (λ (key : OrderKey). item_value columns (group-at a l i) key.item) q.order)
      (map (λ (key : OrderKey). item_value columns (group-at b m i) key.item) q.order)))

  -- the first indexes are those of the first rows
  pub AreFirst-rows : (limit : Option ℕ) (ps : List ℕ)
      → AreFirst (is_before (map (key_over columns (alone held)) q.order)) limit
      (range_with_len 0 (length held)) ps
      → AreFirst (comes_before columns q) limit held (rows_at held ps)
  AreFirst-rows limit ps f =
      let all = range_with_len 0 (length held) in
      record {
        arrangement = rows_at held f.arrangement;
        all =
            subst (λ rows. IsPermutation rows (rows_at held f.arrangement)) (at_all held [])
            (IsPermutation-map (λ at. get_or held at []) all f.arrangement f.all);
        ordered =
            IsSortedBy-map (is_before (map (key_over columns (alone held)) q.order)) (comes_before columns q)
            (λ at. get_or held at []) (length held) f.arrangement is_before-rows
            (indexes_within (length held) f.arrangement f.all) f.ordered;
        first =
            ap (rows_at held) f.first
            ∙ sym (first_of-map limit (λ at. get_or held at []) f.arrangement);
      }

-- the first indexes by the columns of what is held are those of the first rows
pub AreFirst-columns : (columns : List Kind) (q : Query) (held : List Row) (groups : List (List Row))
    → (keys : List OrderKey) (orders : List KindedValues) (len : ℕ) (limit : Option ℕ) (ps : List ℕ)
    → keys ≡ q.order → orders ≡ map (λ (key : OrderKey). column_over columns groups key.item) q.order
    → groups ≡ alone held → len ≡ length groups
    → AreFirst (is_before (keys_in_columns keys orders)) limit (range_with_len 0 len) ps
    → AreFirst (comes_before columns q) limit held (rows_at held ps)
AreFirst-columns columns q held groups keys orders len limit ps k o g n f =
    let same : keys_in_columns keys orders ≡ map (key_over columns (alone held)) q.order =
    (λ i. keys_in_columns (k i) (o i)) ∙ keys_in_columns-over columns groups q.order
    ∙ ap (λ gs. map (key_over columns gs) q.order) g in
    let long : len ≡ length held = n ∙ ap length g ∙ length-map held (λ row. row ∷ []) in
    AreFirst-rows columns q held limit ps
    (subst (λ ks. AreFirst (is_before ks) limit (range_with_len 0 (length held)) ps) same
    (subst (λ m. AreFirst (is_before (keys_in_columns keys orders)) limit (range_with_len 0 m) ps) long f))

-- ---- what is held

-- of an item that is no call, at indexes
slot-at : (columns : List Kind) (held : List Row) (ps : List ℕ) (item : Item) → All (λ k. k < length held) ps
    → (is_call item ≡ true → ⊥)
    → IsSlot columns (alone (rows_at held ps)) item (column_at ps (column_over columns (alone held) item))
slot-at columns held ps (Plain e) within n =
    let first : List Row → Value = λ group. eval e (first_row group) in (
      refl,
      ap (λ vs. values_at vs ps) (map-map first (λ (row : Row). row ∷ []) held)
          ∙ at-indexes (length held) (λ at. get_or (map (eval e) held) at (values.Num 0))
          (λ at. eval e (get_or held at [])) ps within
          (λ k l. get_or-map (eval e) held k [] (values.Num 0) l)
          ∙ sym (map-map (eval e) (λ at. get_or held at []) ps)
          ∙ sym (map-map first (λ (row : Row). row ∷ []) (rows_at held ps)),
    )
slot-at columns held ps (Agg call) within n = absurd (n refl)

slots-at : (columns : List Kind) (held : List Row) (ps : List ℕ) (b : Bool) (items : List Item)
    → All (λ k. k < length held) ps → b ≡ false → All (λ item. is_call item ≡ true → b ≡ true) items
    → AllZip (IsSlot columns (alone (rows_at held ps))) items
    (map (column_at ps) (map (column_over columns (alone held)) items))
slots-at columns held ps b [] within n a = tt
slots-at columns held ps b (item ∷ items) within n a = (
  slot-at columns held ps item within
      (λ t. true≢false (sym (All-head (λ item. is_call item ≡ true → b ≡ true) item items a t) ∙ n)),
  slots-at columns held ps b items within n (All-tail (λ item. is_call item ≡ true → b ≡ true) item items a),
)

-- the indexes are those of values of each column
pub columns-within : (columns : List Kind) (groups : List (List Row)) (items : List Item) (ps : List ℕ)
    → All (λ k. k < length groups) ps
    → All (λ (c : KindedValues). All (λ at. at < length c.values) ps) (map (column_over columns groups) items)
columns-within columns groups items ps within =
    All-weaker (λ (c : KindedValues). length c.values ≡ length groups)
    (λ (c : KindedValues). All (λ at. at < length c.values) ps)
    (λ c e. subst (λ n. All (λ at. at < n) ps) (sym e) within) (map (column_over columns groups) items)
    (columns-lengths columns groups items)

-- the groups of the first rows stand for the same rows
pub StandsFor-first : (q : Query) (columns : List Kind) (rows : List Row) (old new : Groups) (most : ℕ)
    → (keys : List OrderKey) (orders cs : List KindedValues) (ps : List ℕ)
    → (st : StandsFor q columns rows old) → old.form ≡ Each → new.form ≡ Each → q.limit ≡ Some most
    → keys ≡ q.order
    → orders ≡ map (λ (key : OrderKey). column_over columns st.groups key.item) q.order
    → cs ≡ map (column_over columns st.groups) (all_items q)
    → AreFirst (is_before (keys_in_columns keys orders)) (Some most) (range_with_len 0 old.len) ps
    → new.len ≡ length ps → new.slots.items ≡ map (column_at ps) cs
    → StandsFor q columns rows new
StandsFor-first q columns rows old new most keys orders cs ps st e f m k o a first len slots =
    let held = st.held_rows in
    let out = rows_at held ps in
    let d = subst (λ form. HoldsGroups q held form st.groups) e st.divided in
    let many : old.len ≡ length held = st.len ∙ ap length d.1 ∙ length-map held (λ row. row ∷ []) in
    let within =
    subst (λ n. All (λ at. at < n) ps) many
    (AreFirst-within (is_before (keys_in_columns keys orders)) (Some most) old.len ps first) in
    record {
      held_rows = out;
      enough =
          HoldsRows-cut columns q (filter (holds q.filter) rows) held out most d.0 m
          (AreFirst-columns columns q held st.groups keys orders old.len (Some most) ps k o d.1 st.len first)
          st.enough;
      groups = alone out;
      divided = subst (λ form. HoldsGroups q out form (alone out)) (sym f) (d.0, refl);
      len = len ∙ sym (length-map ps (λ at. get_or held at [])) ∙ sym (length-map out (λ row. row ∷ []));
      slots =
          subst (AllZip (IsSlot columns (alone out)) (all_items q))
          (sym (slots ∙ ap (map (column_at ps)) (a ∙ ap (λ gs. map (column_over columns gs) (all_items q)) d.1)))
          (slots-at columns held ps (aggregates_rows q) (all_items q) within d.0 (all_items-calls q));
    }

-- ---- answers

-- rows in order give outcomes that never step back
never_steps_back : (columns : List Kind) (q : Query) (rows : List Row) → IsSortedBy (comes_before columns q) rows
    → NeverStepBack q.order (map (λ row. outcome_of columns q (row ∷ [])) rows)
never_steps_back columns q [] up = tt
never_steps_back columns q (a ∷ []) up = tt
never_steps_back columns q (a ∷ b ∷ rows) up = (
  up 0 [] (omega arith) (omega arith),
  never_steps_back columns q (b ∷ rows)
      (λ k d l m. let e : suc k + 1 ≡ suc (k + 1) = omega arith in
      rw e at (up (suc k) d (omega arith) (omega arith))),
)

-- the first of the rows that are kept give a right answer
answers-first : (q : Query) (rows out : KindedRows) (first : List Row) → aggregates_rows q ≡ false
    → AreFirst (comes_before rows.kinds q) q.limit (filter (holds q.filter) rows.rows) first
    → out
    ≡ record {
      kinds = map (item_kind rows.kinds) q.items;
      rows = map (λ row. line_of rows.kinds q.items (row ∷ [])) first;
    }
    → Answers q rows out
answers-first q rows out first n f o =
    let of_row = λ (row : Row). outcome_of rows.kinds q (row ∷ []) in
    let kept = filter (holds q.filter) rows.rows in
    let outcomes : outcomes_of q rows ≡ map of_row kept =
    ap (map (outcome_of rows.kinds q)) (groups_row q kept n)
    ∙ map-map (outcome_of rows.kinds q) (λ (row : Row). row ∷ []) kept in
    record {
      arrangement = map of_row f.arrangement;
      all =
          subst (λ os. IsPermutation os (map of_row f.arrangement)) (sym outcomes)
          (IsPermutation-map of_row kept f.arrangement f.all);
      ordered = never_steps_back rows.kinds q f.arrangement f.ordered;
      output =
          ap (λ (r : KindedRows). r.rows) o
          ∙ ap (map (λ row. line_of rows.kinds q.items (row ∷ []))) f.first
          ∙ sym (map-map (λ (l : Outcome). l.output) of_row (first_of q.limit f.arrangement))
          ∙ ap (map (λ (l : Outcome). l.output)) (sym (cut-map q.limit of_row f.arrangement));
      kinds = ap (λ (r : KindedRows). r.kinds) o;
    }

-- lines of groups, in the order of the query's keys
abbrev pub AreFirstOf : Query → List Kind → List (List Row) → KindedRows → Type 0
AreFirstOf q columns groups out =
    AreFirstLines
    (is_before (keys_in_columns q.order (map (λ (key : OrderKey). column_over columns groups key.item) q.order)))
    q.limit (lines_of columns q.items groups) out

-- the first lines of the rows that are held
answers-rows : (q : Query) (rows out : KindedRows) (held : List Row) → aggregates_rows q ≡ false
    → KeepsFirstRows rows.kinds q (filter (holds q.filter) rows.rows) held
    → AreFirstOf q rows.kinds (alone held) out → Answers q rows out
answers-rows q rows out held n k f =
    let groups = alone held in
    let ps = f.indexes in
    let long : length (lines_of rows.kinds q.items groups).rows ≡ length held =
    length-map groups (line_of rows.kinds q.items) ∙ length-map held (λ row. row ∷ []) in
    let first : AreFirst (is_before (map (key_over rows.kinds groups) q.order)) q.limit
    (range_with_len 0 (length held)) ps =
    subst (λ ks. AreFirst (is_before ks) q.limit (range_with_len 0 (length held)) ps)
    (keys_in_columns-over rows.kinds groups q.order)
    (subst (λ m. AreFirst
    (is_before (keys_in_columns q.order
    (map (λ (key : OrderKey). column_over rows.kinds groups key.item) q.order)))
    q.limit (range_with_len 0 m) ps) long f.first) in
    let within = AreFirst-within (is_before (map (key_over rows.kinds groups) q.order)) q.limit (length held) ps
    first in
    answers-first q rows out (rows_at held ps) n
    (AreFirst-held (comes_before rows.kinds q) (rows_ranked rows.kinds q) q.limit
    (filter (holds q.filter) rows.rows) held (rows_at held ps) k.dropped k.all k.out
    (AreFirst-rows rows.kinds q held q.limit ps first))
    (f.output
    ∙ (λ i. record { kinds = map (item_kind rows.kinds) q.items; rows = lines within i }))
  where
    lines : All (λ at. at < length held) f.indexes
        → rows_at (lines_of rows.kinds q.items (alone held)).rows f.indexes
        ≡ map (λ row. line_of rows.kinds q.items (row ∷ [])) (rows_at held f.indexes)
    lines within =
        rows_at-lines rows.kinds (alone held) q.items f.indexes
        (subst (λ m. All (λ at. at < m) f.indexes) (sym (length-map held (λ row. row ∷ []))) within)
        ∙ at-indexes (length held) (λ at. line_of rows.kinds q.items (get_or (alone held) at []))
        (λ at. line_of rows.kinds q.items (get_or held at [] ∷ [])) f.indexes within
        (λ k l. ap (line_of rows.kinds q.items) (group-at rows.kinds q held k l))
        ∙ sym (map-map (λ row. line_of rows.kinds q.items (row ∷ [])) (λ at. get_or held at []) f.indexes)

-- the first lines of groups that hold enough are a right answer
pub answers-held : (q : Query) (rows out : KindedRows) (held : List Row) (form : Form) (groups : List (List Row))
    → HoldsRows rows.kinds q (filter (holds q.filter) rows.rows) held → HoldsGroups q held form groups
    → AreFirstOf q rows.kinds groups out → Answers q rows out
answers-held q rows out held Each groups h d f =
    answers-rows q rows out held d.0 (h.separate d.0) (subst (λ gs. AreFirstOf q rows.kinds gs out) d.1 f)
answers-held q rows out held One groups h d f =
    answers-arranged q rows out groups
    (HoldsGroups-permutation q (filter (holds q.filter) rows.rows) One groups
    (subst (λ rs. HoldsGroups q rs One groups) (h.grouped d.0) d)) f
answers-held q rows out held (By keys) groups h d f =
    answers-arranged q rows out groups
    (HoldsGroups-permutation q (filter (holds q.filter) rows.rows) (By keys) groups
    (subst (λ rs. HoldsGroups q rs (By keys) groups) (h.grouped d.0) d)) f
