-- Groups of rows, with further rows, by how the rows are divided.
use Rattle.std.proofs.Common.{◌≡◌, ℕ, ◌<◌, false, List, [], ◌∷◌, ◌++◌, length, map, get_or, replicate}
use Rattle.std.proofs.Common.{refl, sym, ap, ◌∙◌, subst, arith, true≢false}
use Rattle.std.specs.List.{All, range_with_len}
use Rattle.std.proofs.lemmas.List.{length-map, length-append, map-append, get_or-map, get_or-replicate}
use Rattle.std.proofs.lemmas.List.{length-replicate}
use Rattle.std.proofs.lemmas.List.FromFn.{length-range_with_len}
use Rattle.std.proofs.lemmas.List.Elements.{All-nil, All-from_get_or}
use Rattle.std.proofs.lemmas.Simd.{map-map}
use Rattle.pj_value.specs.declared.value.Value.TheVariants as values
use Rattle.pj_value.specs.Columns.{KindedValues}
use Rattle.pj_value.specs.Rows.{KindedRows, rows_at}
use Rattle.pj_expr.specs.declared.expr.Expr.{Expr}
use Rattle.pj_expr.specs.declared.query.Item.TheVariants.{Plain}
use Rattle.pj_expr.specs.declared.query.Query.{Query}
use Rattle.pj_expr.specs.Eval.{eval}
use Rattle.pj_expr.specs.Fits.{is_grouped, IsBuiltOf}
use Rattle.pj_answer.specs.Answers.{Row, key_of, first_row}
use Rattle.pj_answer.proofs.GroupLemmas.{eval-built}
use Rattle.pj_agg.specs.Groups.{added, grown}
use Rattle.pj_group.specs.declared.dense.Dense.{Dense}
use Rattle.pj_group.specs.declared.forms.Form.{Form}
use Rattle.pj_group.specs.declared.forms.Form.TheVariants.{Each, One, By}
use Rattle.pj_group.specs.declared.numbers.Numbers.{Numbers}
use Rattle.pj_group.specs.Dense.{dense_column}
use Rattle.pj_group.specs.Forms.{Regroups}
use Rattle.pj_group.specs.Indexes.{item_column, chosen}
use Rattle.pj_group.specs.Keyed.{key_at}
use Rattle.pj_group.specs.Numbers.{keys_of_rows, AreNumbers}
use Rattle.pj_group.specs.Standing.{HoldsGroups, groups_in}
use Rattle.pj_group.proofs.GroupingLemmas.{groups_in-grown, AreKeys-more, first_rows-more, added-one}
use Rattle.pj_group.proofs.LineLemmas.{by_indexes}
use Rattle.pj_group.proofs.NumbersLemmas.{longer, length-groups, length-openings}
use Rattle.pj_group.proofs.RowLemmas.{all-within}

-- ---- each row by itself

-- a function of the rows at all places
map-places : {Y : Type 0} (f : Row → Y) (rows : List Row)
    → map (λ at. f (get_or rows at [])) (range_with_len 0 (length rows)) ≡ map f rows
map-places f rows = by_indexes (λ at. f (get_or rows at [])) f rows [] (λ k l. refl)

-- each further row is a group
pub regroups-each : (q : Query) (numbers : Numbers) (kept more : List Row) (old : List (List Row))
    → HoldsGroups q kept Each old
    → numbers.groups.items ≡ [] → numbers.openings.items ≡ range_with_len 0 (length more)
    → Regroups q numbers kept more old Each
regroups-each q numbers kept more old h g o =
    record {
      groups = map (λ row. row ∷ []) (kept ++ more);
      divided = (h.0, refl);
      grow = record {
        each = λ t. absurd (true≢false (sym t ∙ h.0));
        first = λ e b. first e;
        longer =
            let m = length-append kept more in
            omega (
              arith,
              ap length h.1,
              length-map kept (λ row. row ∷ []),
              m,
              length-map (kept ++ more) (λ row. row ∷ []),
            );
      };
      len =
          omega (
            arith,
            ap length h.1,
            ap length o,
            length-range_with_len 0 (length more),
            length-map kept (λ row. row ∷ []),
            length-append kept more,
            length-map (kept ++ more) (λ row. row ∷ []),
          );
      within = λ item i. record {
        each = λ c. absurd (true≢false (sym (i.calls c) ∙ h.0));
        within =
            let n = length {A = List Row} (map (λ row. row ∷ []) (kept ++ more)) in
            subst (All (λ m. m < n)) (sym g) (All-nil (λ m. m < n));
        opened = subst (All (λ at. at < length more)) (sym o) (all-within (length more));
      };
    }
  where
    first : (e : Expr) → map (λ group. eval e (first_row group)) (map (λ row. row ∷ []) (kept ++ more))
        ≡ map (λ group. eval e (first_row group)) old
        ++ map (λ at. eval e (get_or more at [])) numbers.openings.items
    first e =
        map-map (λ group. eval e (first_row group)) (λ row. row ∷ []) (kept ++ more)
        ∙ map-append (λ row. eval e row) kept more
        ∙ (λ i. (sym (ap (map (λ group. eval e (first_row group))) h.1
        ∙ map-map (λ group. eval e (first_row group)) (λ row. row ∷ []) kept)) i
        ++ (sym (ap (map (λ at. eval e (get_or more at []))) o ∙ map-places (λ row. eval e row) more)) i)

-- ---- all rows in one

-- no GROUP BY
ungrouped : (exprs : List Expr) → is_grouped exprs ≡ false → exprs ≡ []
ungrouped [] e = refl
ungrouped (x ∷ xs) e = absurd (true≢false e)

-- further rows stand behind the others
pub regroups-one : (q : Query) (numbers : Numbers) (kept more : List Row) (old : List (List Row))
    → HoldsGroups q kept One old
    → numbers.groups.items ≡ replicate (length more) 0 → numbers.openings.items ≡ []
    → Regroups q numbers kept more old One
regroups-one q numbers kept more old h g o =
    record {
      groups = (kept ++ more) ∷ [];
      divided = (h.0, h.1, refl);
      grow = record {
        each = λ t. sym (added-one kept more)
            ∙ (λ i. added (grown (sym h.2 i) 1) (sym g i) more);
        first = λ e b. first e (b h.0);
        longer = omega (arith, ap length h.2);
      };
      len = omega (arith, ap length h.2, ap length o);
      within = λ item i. record {
        each = λ c. ap length g ∙ length-zeros;
        within = subst (All (λ n. n < 1)) (sym g) zeros;
        opened = subst (All (λ at. at < length more)) (sym o) (All-nil (λ at. at < length more));
      };
    }
  where
    length-zeros : length {A = ℕ} (replicate (length more) 0) ≡ length more
    length-zeros = length-replicate {A = ℕ} (length more) 0

    zeros : All (λ n. n < 1) (replicate (length more) 0)
    zeros =
        All-from_get_or (λ n. n < 1) (replicate (length more) 0) 0
        (λ i l. omega (arith, get_or-replicate {A = ℕ} (length more) i 0 0 (omega (arith, length-zeros, l))))

    first : (e : Expr) → IsBuiltOf q.groups e
        → map (λ group. eval e (first_row group)) ((kept ++ more) ∷ [])
        ≡ map (λ group. eval e (first_row group)) old
        ++ map (λ at. eval e (get_or more at [])) numbers.openings.items
    first e b =
        let r = first_row (kept ++ more) in
        let s = first_row kept in
        let alike : key_of q.groups r ≡ key_of q.groups s =
        ap (λ es. key_of es r) (ungrouped q.groups h.1) ∙ sym (ap (λ es. key_of es s)
        (ungrouped q.groups h.1)) in
        ap (λ v. v ∷ []) (eval-built q.groups r s alike b)
        ∙ (λ i. map (λ group. eval e (first_row group)) (sym h.2 i)
        ++ map (λ at. eval e (get_or more at [])) (sym o i))

-- ---- by keys

-- the keys of a form
abbrev pub form_keys : Form → List Row
form_keys Each = []
form_keys One = []
form_keys (By keys) = keys.keys

-- rows go to the groups of their keys, and new keys open groups
pub regroups-by : (q : Query) (numbers : Numbers) (kept more : List Row) (old : List (List Row))
    → (before after : _) → HoldsGroups q kept (By before) old
    → AreNumbers (form_keys (By before)) (map (key_of q.groups) more) (form_keys (By after)) numbers
    → Regroups q numbers kept more old (By after)
regroups-by q numbers kept more old before after h n =
    let exprs = q.groups in
    let a = h.2 in
    let rows = map (key_of exprs) more in
    let many : length old ≡ length before.keys =
    ap length h.3 ∙ length-map before.keys _ in
    let most : length (groups_in exprs after.keys (kept ++ more)) ≡ length after.keys =
    length-map after.keys _ in
    record {
      groups = groups_in exprs after.keys (kept ++ more);
      divided = (h.0, h.1, AreKeys-more exprs kept more before.keys after.keys numbers n a, refl);
      grow = record {
        each = λ t. groups_in-grown exprs kept more before.keys after.keys numbers n a
            ∙ (λ i. added (grown (sym h.3 i) (sym most i)) numbers.groups.items more);
        first = λ e b. first_rows-more exprs kept more before.keys after.keys numbers n a (eval e)
            ∙ (λ i. map (λ group. eval e (first_row group)) (sym h.3 i)
            ++ map (λ at. eval e (get_or more at [])) numbers.openings.items);
        longer = omega (arith, many, most, longer before.keys rows after.keys numbers n);
      };
      len = omega (arith, many, most, length-openings before.keys rows after.keys numbers n);
      within = λ item i. record {
        each = λ c. length-groups before.keys rows after.keys numbers n ∙ length-map more (key_of exprs);
        within = subst (λ m. All (λ k. k < m) numbers.groups.items) (sym most) n.within;
        opened = subst (λ m. All (λ at. at < m) numbers.openings.items) (length-map more (key_of exprs))
            n.opened;
      };
    }

-- ---- the keys of rows in columns

-- the values of columns for one row
key_at-columns : (rows : KindedRows) (indexes : List ℕ) (exprs : List Expr) (at : ℕ)
    → at < length (rows_at rows.rows indexes)
    → map (λ (c : KindedValues). get_or c.values at (values.Num 0))
    (map (λ e. item_column (chosen rows indexes) (Plain e)) exprs)
    ≡ key_of exprs (get_or (rows_at rows.rows indexes) at [])
key_at-columns rows indexes [] at l = refl
key_at-columns rows indexes (e ∷ exprs) at l =
    λ i. get_or-map (λ row. eval e row) (rows_at rows.rows indexes) at [] (values.Num 0) l i
    ∷ key_at-columns rows indexes exprs at l i

-- the keys of the rows at indexes
pub keys_of_rows-columns : (rows : KindedRows) (indexes : List ℕ) (exprs : List Expr) (columns : List Dense)
    → map dense_column columns ≡ map (λ e. item_column (chosen rows indexes) (Plain e)) exprs
    → keys_of_rows columns (length indexes) ≡ map (key_of exprs) (rows_at rows.rows indexes)
keys_of_rows-columns rows indexes exprs columns h =
    let found = rows_at rows.rows indexes in
    ap (keys_of_rows columns) (sym (length-map indexes (λ at. get_or rows.rows at [])))
    ∙ by_indexes (key_at columns) (key_of exprs) found []
    (λ k l.
    sym (map-map (λ (c : KindedValues). get_or c.values k (values.Num 0)) dense_column columns)
    ∙ ap (map (λ (c : KindedValues). get_or c.values k (values.Num 0))) h
    ∙ key_at-columns rows indexes exprs k l)
