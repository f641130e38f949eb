-- What a statement means for a catalog: a bound statement, or its first refusal (docs/GRAMMAR.md, "Binding").
use Rattle.std.specs.Prelude.{◌≡◌, ℕ, ◌<◌, ◌≤◌, List, [], ◌∷◌, length, map, take, Option, Some, None}
use Rattle.std.specs.Prelude.{slice_get, Contains}
use Rattle.pj_value.specs.declared.value.Value.{Value}
use Rattle.pj_grammar.specs.declared.types.Statement.{Statement}
use Rattle.pj_grammar.specs.declared.types.Statement.TheVariants as statements
use Rattle.pj_grammar.specs.declared.types.TreeColumn.{TreeColumn}
use Rattle.pj_grammar.specs.declared.types.TreeSelect.{TreeSelect}
use Rattle.pj_expr.specs.declared.query.Query.{Query}
use Rattle.pj_expr.specs.declared.table.Table.{Table}
use Rattle.pj_expr.specs.Tables.{names, kinds_of}
use Rattle.pj_expr.specs.Fits.{KeepsKinds, KeepsGroups}
use Rattle.pj_bind.specs.declared.types.Bound.{Bound}
use Rattle.pj_bind.specs.declared.types.Bound.TheVariants as bounds
use Rattle.pj_bind.specs.declared.types.LimitName.TheVariants.{Tables, Columns}
use Rattle.pj_bind.specs.declared.types.Refusal.{Refusal}
use Rattle.pj_bind.specs.declared.types.Refusal.TheVariants.{Limit, NotBuilt, UnknownTable, TableExists}
use Rattle.pj_bind.specs.declared.types.Refusal.TheVariants.{DuplicateColumn, UnknownIdentifier}
use Rattle.pj_bind.specs.declared.types.Refusal.TheVariants.{TypeMismatch, NotAnAggregate}
use Rattle.pj_bind.specs.Names.{Name, first_unknown, IsFirstUnknown, NoneRepeats, IsFirstRepeat}
use Rattle.pj_bind.specs.Filling.{column_names, listed_names, FillColumns, filled_rows}
use Rattle.pj_bind.specs.Queries.{column_names_of, query_of}
use Rattle.pj_bind.specs.Tables.{columns_of, table_of}
use Rattle.pj_bind.specs.Built.{IsBuilt}
use Rattle.pj_bind.specs.Causes.{Cause, ◌when◌, ◌naming◌, First}

-- how many tables there may be
abbrev pub table_limit : ℕ
table_limit = 64

-- how many columns a table may have
abbrev pub column_limit : ℕ
column_limit = 64

-- no table has the name
abbrev pub IsUnknown : List Table → Name → Type 0
IsUnknown tables name = Contains (names tables) name → ⊥

-- the table of this number is the first of this name
abbrev pub IsTableAt : List Table → Name → ℕ → Table → Type 0
IsTableAt tables name number table =
    (slice_get tables number ≡ Some table) × (table.name ≡ name) × IsUnknown (take number tables) name

-- ---- CREATE

-- the names of its columns
abbrev pub new_names : List TreeColumn → List Name
new_names columns = column_names (columns_of columns)

-- why a CREATE is refused, in the order of refusals
abbrev pub create_causes : List Table → Name → List TreeColumn → List Name → List Cause
create_causes tables name columns key =
    (TableExists name when Contains (names tables) name)
    ∷ (Limit Tables when table_limit ≤ length tables)
    ∷ (Limit Columns when column_limit < length columns)
    ∷ (DuplicateColumn naming IsFirstRepeat (new_names columns))
    ∷ (DuplicateColumn naming IsFirstRepeat key)
    ∷ (UnknownIdentifier naming IsFirstUnknown (new_names columns) key)
    ∷ []

-- the name is new, and there is room for the table and its columns
pub record HasRoom (tables : List Table) (name : Name) (columns : List TreeColumn) : Type 0 where
  pub unknown : IsUnknown tables name
  pub tables_left : length tables < table_limit
  pub few_columns : length columns ≤ column_limit

-- no column and no name of the key repeats an earlier one
abbrev pub AreOnce : List TreeColumn → List Name → Type 0
AreOnce columns key = NoneRepeats (new_names columns) × NoneRepeats key

-- nothing refuses a CREATE
pub record CanBeCreated (tables : List Table) (name : Name) (columns : List TreeColumn) (key : List Name)
    : Type 0 where
  pub room : HasRoom tables name columns
  pub once : AreOnce columns key
  pub known : first_unknown (new_names columns) key ≡ None

-- ---- INSERT

-- why an INSERT is refused whose table is there
abbrev pub insert_causes : Option (List Name) → List (List Value) → List (Table → Cause)
insert_causes listed rows =
    (λ table. DuplicateColumn naming IsFirstRepeat (listed_names listed))
    ∷ (λ table. UnknownIdentifier naming IsFirstUnknown (column_names table.columns) (listed_names listed))
    ∷ (λ table. TypeMismatch when (FillColumns table.columns listed rows → ⊥))
    ∷ []

-- each name of an INSERT's list is a column, and none repeats an earlier one
abbrev pub AreColumns : Table → Option (List Name) → Type 0
AreColumns table listed =
    NoneRepeats (listed_names listed)
    × (first_unknown (column_names table.columns) (listed_names listed) ≡ None)

-- ---- SELECT

-- the query of a SELECT over the table, which keeps the kinds of its columns
pub record KindsAre (table : Table) (select : TreeSelect) (query : Query) : Type 0 where
  pub made : query_of table.columns select ≡ Some query
  pub kept : KeepsKinds (kinds_of table) query

-- the query keeps the kinds of its columns, and gives something besides its groups
abbrev pub BreaksGroups : Table → TreeSelect → Type 0
BreaksGroups table select = (query : Query) × KindsAre table select query × (KeepsGroups query → ⊥)

-- why a SELECT is refused whose table is there
abbrev pub select_causes : TreeSelect → List (Table → Cause)
select_causes select =
    (λ table. UnknownIdentifier naming IsFirstUnknown (column_names table.columns) (column_names_of select))
    ∷ (λ table. TypeMismatch when ((query : Query) → KindsAre table select query → ⊥))
    ∷ (λ table. NotAnAggregate when BreaksGroups table select)
    ∷ []

-- each name of a SELECT is a column, or an alias where aliases count
abbrev pub AreKnown : Table → TreeSelect → Type 0
AreKnown table select = first_unknown (column_names table.columns) (column_names_of select) ≡ None

-- the query that a SELECT from the table asks for
pub record Asks (table : Table) (select : TreeSelect) (query : Query) : Type 0 where
  pub known : AreKnown table select
  pub kinds : KindsAre table select query
  pub groups : KeepsGroups query

-- ---- refusals

-- the causes, asked of a table
abbrev pub asked_of : Table → List (Table → Cause) → List Cause
asked_of table causes = map (λ cause. cause table) causes

-- the cause, asked of the table of this name
abbrev pub At : List Table → Name → (Table → Cause) → Cause
At tables name cause refusal =
    (number : ℕ) × (table : Table) × IsTableAt tables name number table × cause table refusal

-- the table of this name must be there, and then these causes are asked of it
abbrev pub causes_at : List Table → Name → List (Table → Cause) → List Cause
causes_at tables name causes =
    (UnknownTable name when IsUnknown tables name) ∷ map (λ cause. At tables name cause) causes

-- why a statement of a built form is refused; the other forms have no causes of their own
abbrev pub form_causes : List Table → Statement → List Cause
form_causes tables (statements.Create name columns projections key settings) =
    create_causes tables name columns key
form_causes tables (statements.Insert name listed rows) = causes_at tables name (insert_causes listed rows)
form_causes tables (statements.Select select) = causes_at tables select.table (select_causes select)
form_causes tables statement = []

-- why a statement is refused: a form that isn't built comes before all
abbrev pub causes : List Table → Statement → List Cause
causes tables statement = (NotBuilt when (IsBuilt statement → ⊥)) ∷ form_causes tables statement

-- the statement, of a built form, is refused so for these tables
abbrev pub IsFormRefusal : List Table → Statement → Refusal → Type 0
IsFormRefusal tables statement refusal = First (form_causes tables statement) refusal

-- the statement is refused so for these tables
abbrev pub IsRefusal : List Table → Statement → Refusal → Type 0
IsRefusal tables statement refusal = First (causes tables statement) refusal

-- ---- what is bound

-- the statement, of a built form, binds to this for these tables
abbrev pub IsBound : List Table → Statement → Bound → Type 0
IsBound tables (statements.Create name columns projections key settings) bound =
    CanBeCreated tables name columns key × (bound ≡ bounds.Create (table_of name columns key settings))
IsBound tables (statements.Insert name columns rows) bound =
    (number : ℕ) × (table : Table) × IsTableAt tables name number table
    × AreColumns table columns × FillColumns table.columns columns rows
    × (bound ≡ bounds.Insert number (record {
      kinds = kinds_of table;
      rows = filled_rows table.columns columns rows;
    }))
IsBound tables (statements.Select select) bound =
    (number : ℕ) × (table : Table) × IsTableAt tables select.table number table
    × ((query : Query) × Asks table select query × (bound ≡ bounds.Select number query))
IsBound tables (statements.Explain select) bound = ⊥
IsBound tables (statements.Delete name filter sets) bound = ⊥
IsBound tables (statements.Alter name action sets) bound = ⊥
IsBound tables (statements.Optimize name) bound = ⊥
IsBound tables (statements.Set sets) bound = ⊥
IsBound tables (statements.Merge name) bound = ⊥
IsBound tables (statements.Mutate name) bound = ⊥
