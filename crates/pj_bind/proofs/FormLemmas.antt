-- The causes of each form of statement: each gives one refusal at most, and holds or doesn't.
use Rattle.std.proofs.Common.{◌≡◌, ◌<◌, ◌≤◌, List, [], ◌∷◌, length, Option, Some, None, Contains, refl, sym}
use Rattle.std.proofs.Common.{◌∙◌, subst, inl, inr}
use Rattle.std.proofs.lemmas.Option.{same_Some, none-some}
use Rattle.pj_grammar.specs.declared.types.Statement.{Statement}
use Rattle.pj_grammar.specs.declared.types.Statement.TheVariants as statements
use Rattle.pj_grammar.specs.declared.types.TreeSelect.{TreeSelect}
use Rattle.pj_expr.specs.declared.query.Query.{Query}
use Rattle.pj_expr.specs.declared.table.Table.{Table}
use Rattle.pj_expr.specs.Tables.{names, kinds_of}
use Rattle.pj_expr.specs.Fits.{KeepsKinds, KeepsGroups}
use Rattle.pj_bind.specs.declared.types.LimitName.TheVariants.{Tables, Columns}
use Rattle.pj_bind.specs.declared.types.Refusal.TheVariants.{Limit, NotBuilt, TableExists}
use Rattle.pj_bind.specs.declared.types.Refusal.TheVariants.{DuplicateColumn, UnknownIdentifier}
use Rattle.pj_bind.specs.declared.types.Refusal.TheVariants.{TypeMismatch, NotAnAggregate}
use Rattle.pj_bind.specs.Names.{Name, IsFirstUnknown, IsFirstRepeat}
use Rattle.pj_bind.specs.Filling.{column_names, listed_names, FillColumns}
use Rattle.pj_bind.specs.Queries.{column_names_of, query_of}
use Rattle.pj_bind.specs.Built.{IsBuilt}
use Rattle.pj_bind.specs.Causes.{◌naming◌}
use Rattle.pj_bind.specs.Binding.{table_limit, column_limit, new_names}
use Rattle.pj_bind.specs.Binding.{insert_causes, KindsAre, BreaksGroups, select_causes, form_causes}
use Rattle.pj_bind.specs.Binding.{causes}
use Rattle.pj_bind.proofs.decided.Decided.{Decided, HasOrNone, decided-not, decided-le, decided-lt}
use Rattle.pj_bind.proofs.RepeatLemmas.{decided-Contains, IsFirstRepeat-one, IsFirstRepeat-decided}
use Rattle.pj_bind.proofs.RepeatLemmas.{IsFirstUnknown-one, IsFirstUnknown-decided}
use Rattle.pj_bind.proofs.decided.FillingDecided.{decided-FillColumns}
use Rattle.pj_bind.proofs.decided.QueriesDecided.{decided-KeepsKinds, decided-KeepsGroups}
use Rattle.pj_bind.proofs.CauseLemmas.{Each, GivesOne, when-one, when-decided, naming-one, naming-decided}
use Rattle.pj_bind.proofs.AtLemmas.{causes_at-one, causes_at-decided}

-- ---- one refusal at most

-- names that repeat
repeat-one : (ns : List Name) → GivesOne (DuplicateColumn naming IsFirstRepeat ns)
repeat-one ns = naming-one DuplicateColumn (IsFirstRepeat ns) (IsFirstRepeat-one ns)

-- unknown names
unknown-one : (known ns : List Name) → GivesOne (UnknownIdentifier naming IsFirstUnknown known ns)
unknown-one known ns = naming-one UnknownIdentifier (IsFirstUnknown known ns) (IsFirstUnknown-one known ns)

-- each form
form_causes-one : (tables : List Table) (statement : Statement)
    → Each GivesOne (form_causes tables statement)
form_causes-one tables (statements.Create name columns projections key settings) = (
  when-one (TableExists name) (Contains (names tables) name),
  (
    when-one (Limit Tables) (table_limit ≤ length tables),
    (
      when-one (Limit Columns) (column_limit < length columns),
      (
        repeat-one (new_names columns),
        (repeat-one key, (unknown-one (new_names columns) key, tt)),
      ),
    ),
  ),
)
form_causes-one tables (statements.Insert name listed rows) =
    causes_at-one tables name (insert_causes listed rows) (λ table. (
      repeat-one (listed_names listed),
      (
        unknown-one (column_names table.columns) (listed_names listed),
        (when-one TypeMismatch (FillColumns table.columns listed rows → ⊥), tt),
      ),
    ))
form_causes-one tables (statements.Select select) =
    causes_at-one tables select.table (select_causes select) (λ table. (
      unknown-one (column_names table.columns) (column_names_of select),
      (
        when-one TypeMismatch ((query : Query) → KindsAre table select query → ⊥),
        (when-one NotAnAggregate (BreaksGroups table select), tt),
      ),
    ))
form_causes-one tables statement = tt

-- each statement
pub causes-one : (tables : List Table) (statement : Statement) → Each GivesOne (causes tables statement)
causes-one tables statement =
    (when-one NotBuilt (IsBuilt statement → ⊥), form_causes-one tables statement)

-- ---- decided

-- what is built
decided-empty : {X : Type 0} (xs : List X) → Decided (xs ≡ [])
decided-empty [] = inl refl
decided-empty (x ∷ xs) = inr (λ e. cc)

pub decided-IsBuilt : (statement : Statement) → Decided (IsBuilt statement)
decided-IsBuilt (statements.Create name columns projections key settings) = decided-empty projections
decided-IsBuilt (statements.Insert name listed rows) = inl tt
decided-IsBuilt (statements.Select select) = decided-empty select.sets
decided-IsBuilt statement = inr (λ built. built)

-- names that repeat
repeat-decided : (ns : List Name) → HasOrNone (DuplicateColumn naming IsFirstRepeat ns)
repeat-decided ns = naming-decided DuplicateColumn (IsFirstRepeat ns) (IsFirstRepeat-decided ns)

-- unknown names
unknown-decided : (known ns : List Name) → HasOrNone (UnknownIdentifier naming IsFirstUnknown known ns)
unknown-decided known ns =
    naming-decided UnknownIdentifier (IsFirstUnknown known ns) (IsFirstUnknown-decided known ns)

-- whether a SELECT has a query that keeps its kinds
pub KindsAre-decided : (table : Table) (select : TreeSelect) → HasOrNone (KindsAre table select)
KindsAre-decided table select = by (query_of table.columns select) refl
  where
    by : (o : Option Query) → query_of table.columns select ≡ o → HasOrNone (KindsAre table select)
    by None is = inr (λ query are. none-some query (sym is ∙ are.made))
    by (Some query) is =
        elim (decided-KeepsKinds (kinds_of table) query) [
          | inl kept ↦ inl (query, record { made = is; kept = kept })
          | inr not_so ↦
              inr (λ other are. not_so (subst (KeepsKinds (kinds_of table))
              (same_Some other query (sym are.made ∙ is)) are.kept))
        ]

no_query-decided : (table : Table) (select : TreeSelect)
    → Decided ((query : Query) → KindsAre table select query → ⊥)
no_query-decided table select =
    elim (KindsAre-decided table select) [
      | inl (query, are) ↦ inr (λ none. none query are)
      | inr none ↦ inl none
    ]

BreaksGroups-decided : (table : Table) (select : TreeSelect) → Decided (BreaksGroups table select)
BreaksGroups-decided table select =
    elim (KindsAre-decided table select) [
      | inr none ↦ inr (λ breaks. none breaks.0 breaks.1)
      | inl (query, are) ↦
          elim (decided-KeepsGroups query) [
            | inr broken ↦ inl (query, are, broken)
            | inl kept ↦
                inr (λ breaks. breaks.2 (subst KeepsGroups
                (same_Some query breaks.0 (sym are.made ∙ breaks.1.made)) kept))
          ]
    ]

-- each form
form_causes-decided : (tables : List Table) (statement : Statement)
    → Each HasOrNone (form_causes tables statement)
form_causes-decided tables (statements.Create name columns projections key settings) = (
  when-decided (TableExists name) (Contains (names tables) name) (decided-Contains (names tables) name),
  (
    when-decided (Limit Tables) (table_limit ≤ length tables) (decided-le table_limit (length tables)),
    (
      when-decided (Limit Columns) (column_limit < length columns) (decided-lt column_limit (length columns)),
      (
        repeat-decided (new_names columns),
        (repeat-decided key, (unknown-decided (new_names columns) key, tt)),
      ),
    ),
  ),
)
form_causes-decided tables (statements.Insert name listed rows) =
    causes_at-decided tables name (insert_causes listed rows) (λ table. (
      repeat-decided (listed_names listed),
      (
        unknown-decided (column_names table.columns) (listed_names listed),
        (
          when-decided TypeMismatch (FillColumns table.columns listed rows → ⊥)
              (decided-not (decided-FillColumns table.columns listed rows)),
          tt,
        ),
      ),
    ))
form_causes-decided tables (statements.Select select) =
    causes_at-decided tables select.table (select_causes select) (λ table. (
      unknown-decided (column_names table.columns) (column_names_of select),
      (
        when-decided TypeMismatch ((query : Query) → KindsAre table select query → ⊥)
            (no_query-decided table select),
        (
          when-decided NotAnAggregate (BreaksGroups table select) (BreaksGroups-decided table select),
          tt,
        ),
      ),
    ))
form_causes-decided tables statement = tt

-- each statement
pub causes-decided : (tables : List Table) (statement : Statement) → Each HasOrNone (causes tables statement)
causes-decided tables statement = (
  when-decided NotBuilt (IsBuilt statement → ⊥) (decided-not (decided-IsBuilt statement)),
  form_causes-decided tables statement,
)
