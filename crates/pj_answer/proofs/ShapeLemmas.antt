-- The values that items give for groups are of the items' kinds.
use Rattle.std.proofs.Common.{◌≡◌, Bool, true, false, cond, ◌||◌, List, [], ◌∷◌, map}
use Rattle.std.proofs.Common.{refl, ap, ◌∙◌}
use Rattle.std.specs.List.{AllByRecursion, All, list_any, filter}
use Rattle.std.proofs.lemmas.List.Elements.{All-from_recursion}
use Rattle.pj_value.specs.declared.value.Kind.{Kind}
use Rattle.pj_value.specs.declared.value.Value.{Value}
use Rattle.pj_value.specs.Values.{kind_of}
use Rattle.pj_value.specs.Rows.{HaveKinds}
use Rattle.pj_expr.specs.declared.query.Item.{Item}
use Rattle.pj_expr.specs.declared.query.Item.TheVariants.{Plain, Agg}
use Rattle.pj_expr.specs.declared.query.OrderKey.{OrderKey}
use Rattle.pj_expr.specs.declared.query.Query.{Query}
use Rattle.pj_expr.specs.Fits.{FitsItem, IsOfGroup, aggregates_rows}
use Rattle.pj_expr.specs.Fits.{is_call, is_grouped}
use Rattle.pj_expr.specs.declared.expr.Expr.{Expr}
use Rattle.pj_answer.specs.Answers.{Row, same_row, distinct_rows, key_of, groups_by}
use Rattle.pj_answer.specs.Answers.{item_value, item_kind, first_row, groups_of}
use Rattle.pj_answer.specs.Rows.{of_kinds, HasShape}
use Rattle.pj_expr.proofs.KindLemmas.{kind_of-eval, kind_of-built}
use Rattle.pj_answer.proofs.CallLemmas.{kind_of-call}
use Rattle.pj_answer.proofs.KeyLemmas.{groups_by-first}

module _ (columns : List Kind) (group : List (List Value)) (s : HaveKinds columns group) where
  -- an item over a group whose first row is of the kinds
  row-shape : (item : Item) → map kind_of (first_row group) ≡ columns → FitsItem columns item
      → kind_of (item_value columns group item) ≡ item_kind columns item
  row-shape (Plain e) r f = rw f.1 (kind_of-eval columns (first_row group) r e f.0 f.1)
  row-shape (Agg call) r f = kind_of-call columns call.kind call.argument group s f

  -- an item that is built of literals, over any group
  built-shape : (item : Item) → IsOfGroup [] item → FitsItem columns item
      → kind_of (item_value columns group item) ≡ item_kind columns item
  built-shape (Plain e) b f = rw f.1 (kind_of-built columns (first_row group) e f.0 b f.1)
  built-shape (Agg call) b f = kind_of-call columns call.kind call.argument group s f

  -- all items over such groups
  row-shapes : (items : List Item) → map kind_of (first_row group) ≡ columns
      → AllByRecursion (FitsItem columns) items → HasShape columns items (of_kinds columns group)
  row-shapes [] r f = refl
  row-shapes (item ∷ items) r f = rw (row-shape item r f.0, row-shapes items r f.1)

  built-shapes : (items : List Item) → AllByRecursion (IsOfGroup []) items
      → AllByRecursion (FitsItem columns) items → HasShape columns items (of_kinds columns group)
  built-shapes [] b f = refl
  built-shapes (item ∷ items) b f = rw (built-shape item b.0 f.0, built-shapes items b.1 f.1)

-- the groups of a query that aggregates without GROUP BY, and of one that doesn't aggregate
pub groups_one : (q : Query) (rows : List (List Value)) → aggregates_rows q ≡ true → q.groups ≡ []
    → groups_of q rows ≡ rows ∷ []
groups_one q rows e g = rw (e, g) refl

pub groups_row : (q : Query) (rows : List (List Value)) → aggregates_rows q ≡ false
    → groups_of q rows ≡ map (λ row. row ∷ []) rows
groups_row q rows e = rw e refl

or_true : (b : Bool) → (b || true) ≡ true
or_true true = refl
or_true false = refl

-- a query with GROUP BY aggregates
keyed-aggregates : (q : Query) (e : Expr) (es : List Expr) → q.groups ≡ e ∷ es → aggregates_rows q ≡ true
keyed-aggregates q e es g =
    ap (λ gs. list_any is_call q.items ||
    (list_any (λ (key : OrderKey). is_call key.item) q.order || is_grouped gs)) g
    ∙ ap (λ b. list_any is_call q.items || b)
    (or_true (list_any (λ (key : OrderKey). is_call key.item) q.order))
    ∙ or_true (list_any is_call q.items)

-- the groups of a query with GROUP BY
pub groups_keyed : (q : Query) (rows : List (List Value)) (e : Expr) (es : List Expr) → q.groups ≡ e ∷ es
    → groups_of q rows ≡ groups_by (e ∷ es) rows
groups_keyed q rows e es g = rw (keyed-aggregates q e es g, g) refl

-- the rows that a test keeps are of the kinds
pub HaveKinds-filter : (columns : List Kind) (p : List Value → Bool) (rows : List (List Value))
    → HaveKinds columns rows → HaveKinds columns (filter p rows)
HaveKinds-filter columns p [] s = tt
HaveKinds-filter columns p (row ∷ rows) s = by (p row) (HaveKinds-filter columns p rows s.1)
  where
    by : (b : Bool) → HaveKinds columns (filter p rows)
        → HaveKinds columns (cond b (row ∷ filter p rows) (filter p rows))
    by true r = (s.0, r)
    by false r = r

-- the rows of the groups by GROUP BY are of the kinds
groups-kinds : (columns : List Kind) (keys : List Expr) (rows : List Row) → HaveKinds columns rows
    → (ks : List Row) → AllByRecursion (HaveKinds columns)
    (map (λ key. filter (λ row. same_row key (key_of keys row)) rows) ks)
groups-kinds columns keys rows s [] = tt
groups-kinds columns keys rows s (key ∷ ks) = (
  HaveKinds-filter columns (λ row. same_row key (key_of keys row)) rows s,
  groups-kinds columns keys rows s ks,
)

module _ (columns : List Kind) (items : List Item) (fits : AllByRecursion (FitsItem columns) items) where
  -- each row by itself
  rows-shapes : (rows : List (List Value)) → HaveKinds columns rows
      → AllByRecursion (HasShape columns items) (map (of_kinds columns) (map (λ row. row ∷ []) rows))
  rows-shapes [] s = tt
  rows-shapes (row ∷ rows) s = (row-shapes columns (row ∷ []) (s.0, tt) items s.0 fits, rows-shapes rows s.1)

  -- all rows in one group
  group-shapes : (rows : List (List Value)) → HaveKinds columns rows → AllByRecursion (IsOfGroup []) items
      → AllByRecursion (HasShape columns items) (of_kinds columns rows ∷ [])
  group-shapes [] s b = (built-shapes columns [] s items b fits, tt)
  group-shapes (row ∷ rows) s b = (row-shapes columns (row ∷ rows) s items s.0 fits, tt)

  -- groups whose rows, and whose first row, are of the kinds
  keyed-shapes : (groups : List (List Row))
      → AllByRecursion (λ group. map kind_of (first_row group) ≡ columns) groups
      → AllByRecursion (HaveKinds columns) groups
      → AllByRecursion (HasShape columns items) (map (of_kinds columns) groups)
  keyed-shapes [] first s = tt
  keyed-shapes (group ∷ groups) first s =
      (row-shapes columns group s.0 items first.0 fits, keyed-shapes groups first.1 s.1)

  -- the groups of a query without GROUP BY
  ungrouped-shapes : (q : Query) (rows : List (List Value)) → HaveKinds columns rows → q.groups ≡ []
      → (aggregates_rows q ≡ true → AllByRecursion (IsOfGroup q.groups) items)
      → AllByRecursion (HasShape columns items) (map (of_kinds columns) (groups_of q rows))
  ungrouped-shapes q rows s g b = by (aggregates_rows q) refl
    where
      by : (t : Bool) → aggregates_rows q ≡ t
          → AllByRecursion (HasShape columns items) (map (of_kinds columns) (groups_of q rows))
      by true e = rw (groups_one q rows e g) (group-shapes rows s (rw g at (b e)))
      by false e = rw (groups_row q rows e) (rows-shapes rows s)

  -- the groups of any query
  pub query-shapes : (q : Query) (rows : List (List Value)) → HaveKinds columns rows
      → (aggregates_rows q ≡ true → AllByRecursion (IsOfGroup q.groups) items)
      → All (HasShape columns items) (map (of_kinds columns) (groups_of q rows))
  query-shapes q rows s b = All-from_recursion (HasShape columns items) _ (by q.groups refl)
    where
      by : (keys : List Expr) → q.groups ≡ keys
          → AllByRecursion (HasShape columns items) (map (of_kinds columns) (groups_of q rows))
      by [] g = ungrouped-shapes q rows s g b
      by (e ∷ es) g =
          rw (groups_keyed q rows e es g)
          (keyed-shapes (groups_by (e ∷ es) rows) (groups_by-first columns (e ∷ es) rows s)
          (groups-kinds columns (e ∷ es) rows s (distinct_rows (map (key_of (e ∷ es)) rows))))
