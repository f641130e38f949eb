-- A statement binds or is refused, one or the other, and in one way.
use Rattle.std.proofs.Common.{◌≡◌, ℕ, ◌<◌, ◌≤◌, List, length, Option, None, Contains, refl, sym, ap, ◌∙◌}
use Rattle.std.proofs.Common.{subst, ⊎_elim, inl, inr, arith}
use Rattle.std.proofs.lemmas.Bool.{cases_lt}
use Rattle.std.proofs.lemmas.Option.{same_Some}
use Rattle.pj_value.specs.declared.value.Value.{Value}
use Rattle.pj_grammar.specs.declared.types.Statement.{Statement}
use Rattle.pj_grammar.specs.declared.types.Statement.TheVariants as statements
use Rattle.pj_grammar.specs.declared.types.TreeColumn.{TreeColumn}
use Rattle.pj_grammar.specs.declared.types.TreeSelect.{TreeSelect}
use Rattle.pj_expr.specs.declared.query.Query.{Query}
use Rattle.pj_expr.specs.declared.table.Table.{Table}
use Rattle.pj_expr.specs.Tables.{names, kinds_of}
use Rattle.pj_expr.specs.Fits.{FitsQuery, KeepsGroups}
use Rattle.pj_bind.specs.declared.types.Bound.{Bound}
use Rattle.pj_bind.specs.declared.types.Bound.TheVariants as bounds
use Rattle.pj_bind.specs.declared.types.LimitName.TheVariants.{Tables, Columns}
use Rattle.pj_bind.specs.declared.types.Refusal.TheVariants.{Limit, NotBuilt, UnknownTable, TableExists}
use Rattle.pj_bind.specs.declared.types.Refusal.TheVariants.{DuplicateColumn, UnknownIdentifier}
use Rattle.pj_bind.specs.declared.types.Refusal.TheVariants.{TypeMismatch, NotAnAggregate}
use Rattle.pj_bind.specs.Names.{Name, first_unknown, IsFirstUnknown, NoneRepeats, IsFirstRepeat}
use Rattle.pj_bind.specs.Filling.{column_names, listed_names, FillColumns, filled_rows}
use Rattle.pj_bind.specs.Queries.{column_names_of}
use Rattle.pj_bind.specs.Tables.{table_of}
use Rattle.pj_bind.specs.Built.{IsBuilt}
use Rattle.pj_bind.specs.Causes.{◌when◌, ◌naming◌, GivesNone}
use Rattle.pj_bind.specs.Binding.{table_limit, column_limit, IsUnknown, IsTableAt, new_names, CanBeCreated}
use Rattle.pj_bind.specs.Binding.{create_causes, AreColumns, insert_causes, KindsAre, BreaksGroups}
use Rattle.pj_bind.specs.Binding.{select_causes, Asks, asked_of, form_causes, causes, IsBound}
use Rattle.pj_bind.specs.Laws.{OneRefusal, OneBound, NoBoundIsRefused, BoundOrRefused, BoundQueriesFit}
use Rattle.pj_bind.proofs.decided.Decided.{holds}
use Rattle.pj_bind.proofs.RepeatLemmas.{NoneRepeats-from_none}
use Rattle.pj_bind.proofs.RepeatLemmas.{known-from_none}
use Rattle.pj_bind.proofs.TableLemmas.{unknown-or-at, number-same, table-same}
use Rattle.pj_bind.proofs.FaultLemmas.{repeat-none, unknown-none}
use Rattle.pj_bind.proofs.decided.FillingDecided.{decided-FillColumns}
use Rattle.pj_bind.proofs.decided.QueriesDecided.{decided-KeepsGroups}
use Rattle.pj_bind.proofs.CauseLemmas.{Each, when-none, First-one, First-none, First-or-none}
use Rattle.pj_bind.proofs.AtLemmas.{causes_at-none, asked_of-none}
use Rattle.pj_bind.proofs.FormLemmas.{causes-one, causes-decided, decided-IsBuilt, KindsAre-decided}

-- ---- names

-- where no repeat is told, none repeats
once : (ns : List Name) → GivesNone (DuplicateColumn naming IsFirstRepeat ns) → NoneRepeats ns
once ns none = NoneRepeats-from_none ns (λ name is. none (DuplicateColumn name) (name, refl, is))

-- where no unknown one is told, all are known
all_known : (known ns : List Name) → GivesNone (UnknownIdentifier naming IsFirstUnknown known ns)
    → first_unknown known ns ≡ None
all_known known ns none =
    known-from_none known ns (λ name is. none (UnknownIdentifier name) (name, refl, is))

-- ---- CREATE

module _ (tables : List Table) (name : Name) (columns : List TreeColumn) (key : List Name) where
  -- a CREATE that can be done has no cause against it
  CanBeCreated-none : CanBeCreated tables name columns key
      → Each GivesNone (create_causes tables name columns key)
  CanBeCreated-none can = (
    when-none (TableExists name) (Contains (names tables) name) can.room.unknown,
    (
      when-none (Limit Tables) (table_limit ≤ length tables)
          (λ full. omega (arith, full, can.room.tables_left)),
      (
        when-none (Limit Columns) (column_limit < length columns)
            (λ many. omega (arith, many, can.room.few_columns)),
        (
          repeat-none (new_names columns) can.once.0,
          (repeat-none key can.once.1, (unknown-none (new_names columns) key can.known, tt)),
        ),
      ),
    ),
  )

  -- one with none can be done
  CanBeCreated-from_none : Each GivesNone (create_causes tables name columns key)
      → CanBeCreated tables name columns key
  CanBeCreated-from_none (new, (left, (few, (columns_once, (key_once, (known, end)))))) = record {
    room = record {
      unknown = λ taken. new (TableExists name) (refl, taken);
      tables_left =
          ⊎_elim (λ lt. lt) (λ full. absurd (left (Limit Tables) (refl, full)))
          (cases_lt (length tables) table_limit);
      few_columns =
          ⊎_elim (λ many. absurd (few (Limit Columns) (refl, many))) (λ le. le)
          (cases_lt column_limit (length columns));
    };
    once = (once (new_names columns) columns_once, once key key_once);
    known = all_known (new_names columns) key known;
  }

-- ---- INSERT

module _ (table : Table) (listed : Option (List Name)) (rows : List (List Value)) where
  -- an INSERT whose rows fill the table has no cause against it
  FillColumns-none : AreColumns table listed → FillColumns table.columns listed rows
      → Each GivesNone (asked_of table (insert_causes listed rows))
  FillColumns-none are fill = (
    repeat-none (listed_names listed) are.0,
    (
      unknown-none (column_names table.columns) (listed_names listed) are.1,
      (
        when-none TypeMismatch (FillColumns table.columns listed rows → ⊥) (λ misfit. misfit fill),
        tt,
      ),
    ),
  )

  -- the rows of one with none fill the table
  FillColumns-from_none : Each GivesNone (asked_of table (insert_causes listed rows))
      → AreColumns table listed × FillColumns table.columns listed rows
  FillColumns-from_none (no_repeat, (no_unknown, (no_misfit, end))) = (
    (
      once (listed_names listed) no_repeat,
      all_known (column_names table.columns) (listed_names listed) no_unknown,
    ),
    holds (decided-FillColumns table.columns listed rows) (λ misfit. no_misfit TypeMismatch (refl, misfit)),
  )

-- ---- SELECT

module _ (table : Table) (select : TreeSelect) where
  -- the query of a SELECT is one
  KindsAre-one : (p q : Query) → KindsAre table select p → KindsAre table select q → p ≡ q
  KindsAre-one p q r s = same_Some p q (sym r.made ∙ s.made)

  -- a SELECT that asks for a query has no cause against it
  Asks-none : (query : Query) → Asks table select query
      → Each GivesNone (asked_of table (select_causes select))
  Asks-none query asks = (
    unknown-none (column_names table.columns) (column_names_of select) asks.known,
    (
      when-none TypeMismatch ((q : Query) → KindsAre table select q → ⊥)
          (λ no_query. no_query query asks.kinds),
      (
        when-none NotAnAggregate (BreaksGroups table select)
            (λ breaks. breaks.2
            (subst KeepsGroups (KindsAre-one query breaks.0 asks.kinds breaks.1) asks.groups)),
        tt,
      ),
    ),
  )

  -- one with none asks for a query
  Asks-from_none : Each GivesNone (asked_of table (select_causes select))
      → (query : Query) × Asks table select query
  Asks-from_none (no_unknown, (no_mismatch, (no_break, end))) =
      elim (KindsAre-decided table select) [
        | inr none ↦ absurd (no_mismatch TypeMismatch (refl, none))
        | inl (query, kinds) ↦ (
          query,
          record {
            known = all_known (column_names table.columns) (column_names_of select) no_unknown;
            kinds = kinds;
            groups =
                holds (decided-KeepsGroups query)
                (λ broken. no_break NotAnAggregate (refl, (query, kinds, broken)));
          },
        )
      ]

-- ---- statements

module _ (tables : List Table) where
  -- a statement that binds has no cause of its form against it
  IsBound-none : (statement : Statement) (bound : Bound) → IsBound tables statement bound
      → Each GivesNone (form_causes tables statement)
  IsBound-none (statements.Create name columns projections key settings) bound b =
      CanBeCreated-none tables name columns key b.0
  IsBound-none (statements.Insert name listed rows) bound (i, table, here, are, fill, is) =
      causes_at-none tables name i table here (insert_causes listed rows)
      (FillColumns-none table listed rows are fill)
  IsBound-none (statements.Select select) bound (i, table, here, (query, asks, is)) =
      causes_at-none tables select.table i table here (select_causes select)
      (Asks-none table select query asks)
  IsBound-none statement bound b = absurd b

  -- a table that isn't unknown is there
  there : (name : Name) → GivesNone (UnknownTable name when IsUnknown tables name)
      → (number : ℕ) × (table : Table) × IsTableAt tables name number table
  there name none =
      elim (unknown-or-at tables name) [
        | inl unknown ↦ absurd (none (UnknownTable name) (refl, unknown))
        | inr (number, (table, at)) ↦ (number, table, at)
      ]

  -- a statement of a built form with none binds
  IsBound-from_none : (statement : Statement) → IsBuilt statement
      → Each GivesNone (form_causes tables statement) → (bound : Bound) × IsBound tables statement bound
  IsBound-from_none (statements.Create name columns projections key settings) built none = (
    bounds.Create (table_of name columns key settings),
    (CanBeCreated-from_none tables name columns key none, refl),
  )
  IsBound-from_none (statements.Insert name listed rows) built none =
      let (number, table, at) = there name none.0 in
      let fill =
      FillColumns-from_none table listed rows
      (asked_of-none tables name number table at (insert_causes listed rows) none.1) in (
        bounds.Insert number (record {
          kinds = kinds_of table;
          rows = filled_rows table.columns listed rows;
        }),
        (number, table, at, fill.0, fill.1, refl),
      )
  IsBound-from_none (statements.Select select) built none =
      let (number, table, at) = there select.table none.0 in
      let (query, asks) =
      Asks-from_none table select
      (asked_of-none tables select.table number table at (select_causes select) none.1) in
      (bounds.Select number query, (number, table, at, (query, asks, refl)))
  IsBound-from_none statement built none = absurd built

  -- a statement binds in one way
  IsBound-one : (statement : Statement) (a b : Bound) → IsBound tables statement a
      → IsBound tables statement b → a ≡ b
  IsBound-one (statements.Create name columns projections key settings) a b r s = r.1 ∙ sym s.1
  IsBound-one (statements.Insert name columns rows) a b (i, s, here, are, fill, is)
      (j, t, at, also, filled, made) =
      let number : i ≡ j = number-same tables name i j s t here at in
      let table : s ≡ t = table-same tables name i j s t here at in
      is
      ∙ ap (λ (k : ℕ). bounds.Insert k
      (record { kinds = kinds_of s; rows = filled_rows s.columns columns rows })) number
      ∙ ap (λ (x : Table). bounds.Insert j
      (record { kinds = kinds_of x; rows = filled_rows x.columns columns rows })) table
      ∙ sym made
  IsBound-one (statements.Select select) a b (i, s, here, (p, asks, is)) (j, t, at, (q, too, made)) =
      let number : i ≡ j = number-same tables select.table i j s t here at in
      let table : s ≡ t = table-same tables select.table i j s t here at in
      let query : p ≡ q =
      KindsAre-one t select p q
      (subst (λ (x : Table). KindsAre x select p) table asks.kinds) too.kinds in
      is ∙ ap (λ (k : ℕ). bounds.Select k p) number ∙ ap (λ (x : Query). bounds.Select j x) query ∙ sym made
  IsBound-one statement a b r s = absurd r

-- ---- the laws

-- a statement is refused in one way
pub one_refusal : OneRefusal
one_refusal tables statement = First-one (causes tables statement) (causes-one tables statement)

-- a statement binds in one way
pub one_bound : OneBound
one_bound tables statement = IsBound-one tables statement

-- what binds isn't refused
pub no_bound_is_refused : NoBoundIsRefused
no_bound_is_refused tables statement bound refusal built binds =
    First-none (causes tables statement) (
      when-none NotBuilt (IsBuilt statement → ⊥) (λ not_built. not_built built),
      IsBound-none tables statement bound binds,
    ) refusal

-- each statement binds or is refused
pub bound_or_refused : BoundOrRefused
bound_or_refused tables statement =
    elim (First-or-none (causes tables statement) (causes-decided tables statement)) [
      | inl refused ↦ inr refused
      | inr none ↦
          let built : IsBuilt statement =
          holds (decided-IsBuilt statement) (λ not_built. none.0 NotBuilt (refl, not_built)) in
          let (bound, binds) = IsBound-from_none tables statement built none.1 in
          inl (bound, built, binds)
    ]

-- a query with its kinds and its groups fits
fits : (table : Table) (select : TreeSelect) (query : Query) → Asks table select query
    → FitsQuery (kinds_of table) query
fits table select query asks = record { kinds = asks.kinds.kept; groups = asks.groups }

-- the query that a SELECT binds to fits its table
pub bound_queries_fit : BoundQueriesFit
bound_queries_fit tables select number query (i, table, here, (made, asks, is)) =
    let same : number ≡ i = cc in
    let other : made ≡ query = cc in (
      table,
      subst (λ (k : ℕ). IsTableAt tables select.table k table) (sym same) here,
      subst (FitsQuery (kinds_of table)) other (fits table select made asks),
    )
