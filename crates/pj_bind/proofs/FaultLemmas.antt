-- Why a statement is refused, from what its parts are.
use Rattle.std.proofs.Common.{◌≡◌, ℕ, ◌<◌, ◌≤◌, List, length, true, false, Option, Some, None, Bor}
use Rattle.std.proofs.Common.{MatchOption, Contains, refl, sym, ◌∙◌, subst}
use Rattle.std.proofs.Common.{inl, inr, arith}
use Rattle.std.specs.Option.{is_some}
use Rattle.std.proofs.lemmas.Bool.{false≢true}
use Rattle.std.proofs.lemmas.Option.{same_Some, none-some}
use Rattle.pj_value.specs.declared.text.Text.{Text}
use Rattle.pj_grammar.specs.declared.types.TreeColumn.{TreeColumn}
use Rattle.pj_grammar.specs.declared.types.TreeSelect.{TreeSelect}
use Rattle.pj_expr.specs.declared.query.Query.{Query}
use Rattle.pj_expr.specs.declared.table.Table.{Table}
use Rattle.pj_expr.specs.Tables.{names, kinds_of}
use Rattle.pj_expr.specs.Fits.{KeepsKinds}
use Rattle.pj_bind.specs.declared.binding.BindFault.{BindFault}
use Rattle.pj_bind.specs.declared.binding.BindFault.TheVariants as faults
use Rattle.pj_bind.specs.declared.types.LimitName.TheVariants.{Tables, Columns}
use Rattle.pj_bind.specs.declared.types.Refusal.{Refusal}
use Rattle.pj_bind.specs.declared.types.Refusal.TheVariants.{Limit, TableExists, DuplicateColumn}
use Rattle.pj_bind.specs.declared.types.Refusal.TheVariants.{UnknownIdentifier, TypeMismatch}
use Rattle.pj_bind.specs.Names.{Name, first_unknown, IsFirstUnknown, NoneRepeats, IsFirstRepeat}
use Rattle.pj_bind.specs.Filling.{column_names}
use Rattle.pj_bind.specs.Queries.{column_names_of, query_of}
use Rattle.pj_bind.specs.Causes.{◌when◌, ◌naming◌, GivesNone, First}
use Rattle.pj_bind.specs.Binding.{table_limit, column_limit, IsUnknown, new_names, HasRoom, AreOnce}
use Rattle.pj_bind.specs.Binding.{create_causes, AreKnown, KindsAre, select_causes}
use Rattle.pj_bind.specs.Binding.{asked_of}
use Rattle.pj_bind.specs.Faults.{IsFault, IsAt, IsMisfit}
use Rattle.pj_bind.proofs.RepeatLemmas.{IsFirstRepeat-none, IsFirstUnknown-none}
use Rattle.pj_bind.proofs.TableLemmas.{Contains-at}
use Rattle.pj_bind.proofs.CauseLemmas.{when-none, naming-none}

-- a fault that is one refusal
pub IsFault-is : (refuses : Refusal → Type 0) (fault : BindFault) (refusal : Refusal)
    → IsFault (λ r. r ≡ refusal) fault → refuses refusal → IsFault refuses fault
IsFault-is refuses (faults.Refused r) refusal is holds = subst refuses (sym is) holds
IsFault-is refuses faults.NoMemory refusal is holds = tt

-- a fault whose refusals are others too
pub IsFault-weaker : (these those : Refusal → Type 0) (fault : BindFault)
    → ((r : Refusal) → these r → those r) → IsFault these fault → IsFault those fault
IsFault-weaker these those (faults.Refused r) weaker holds = weaker r holds
IsFault-weaker these those faults.NoMemory weaker holds = tt

-- ---- what was looked up

module _ (tables : List Table) (name : Name) where
  -- a table was found
  pub table-found : (o : Option ℕ) → is_some o ≡ true
      → MatchOption o (IsUnknown tables name) (IsAt tables name) → Contains (names tables) name
  table-found (Some number) e (table, at) = Contains-at tables name number table at.0 at.1
  table-found None e unknown = absurd (false≢true e)

  -- none was, and there is room
  pub HasRoom-from : (columns : List TreeColumn) (o : Option ℕ) → is_some o ≡ false
      → MatchOption o (IsUnknown tables name) (IsAt tables name) → length tables < 64 → length columns ≤ 64
      → HasRoom tables name columns
  HasRoom-from columns (Some number) e at left few = absurd (false≢true (sym e))
  HasRoom-from columns None e unknown left few =
      record { unknown = unknown; tables_left = left; few_columns = few }

module _ (xs ys : List Name) (same : xs ≡ ys) where
  -- no name was found that repeats
  pub NoneRepeats-from : (o : Option (Bor Text)) → o ≡ None
      → MatchOption o (NoneRepeats xs) (λ name. IsFirstRepeat xs name.now) → NoneRepeats ys
  NoneRepeats-from (Some name) e found = absurd (none-some name (sym e))
  NoneRepeats-from None e none = subst NoneRepeats same none

  -- the first was
  pub IsFirstRepeat-from : (o : Option (Bor Text)) (name : Bor Text) → o ≡ Some name
      → MatchOption o (NoneRepeats xs) (λ other. IsFirstRepeat xs other.now) → IsFirstRepeat ys name.now
  IsFirstRepeat-from (Some other) name e found =
      subst (λ (ns : List Name). IsFirstRepeat ns name.now) same
      (subst (λ (n : Bor Text). IsFirstRepeat xs n.now) (same_Some other name e) found)
  IsFirstRepeat-from None name e none = absurd (none-some name e)

-- where none repeats, no repeat is told
pub repeat-none : (ns : List Name) → NoneRepeats ns → GivesNone (DuplicateColumn naming IsFirstRepeat ns)
repeat-none ns once = naming-none DuplicateColumn (IsFirstRepeat ns) (IsFirstRepeat-none ns once)

-- where all are known, no unknown one is told
pub unknown-none : (known ns : List Name) → first_unknown known ns ≡ None
    → GivesNone (UnknownIdentifier naming IsFirstUnknown known ns)
unknown-none known ns all =
    naming-none UnknownIdentifier (IsFirstUnknown known ns) (IsFirstUnknown-none known ns all)

-- ---- CREATE

module _ (tables : List Table) (name : Name) (columns : List TreeColumn) (key : List Name) where
  -- the name is new
  taken-none : IsUnknown tables name → GivesNone (TableExists name when Contains (names tables) name)
  taken-none unknown = when-none (TableExists name) (Contains (names tables) name) unknown

  -- there are not too many tables
  full-none : length tables < table_limit → GivesNone (Limit Tables when (table_limit ≤ length tables))
  full-none left =
      when-none (Limit Tables) (table_limit ≤ length tables) (λ full. omega (arith, full, left))

  -- nor columns
  many-none : length columns ≤ column_limit → GivesNone (Limit Columns when (column_limit < length columns))
  many-none few =
      when-none (Limit Columns) (column_limit < length columns) (λ many. omega (arith, many, few))

  -- a name that repeats, or an unknown one, where nothing before it refuses
  module _ (room : HasRoom tables name columns) where
    pub create-column : (n : Name) → IsFirstRepeat (new_names columns) n
        → First (create_causes tables name columns key) (DuplicateColumn n)
    create-column n is =
        inr (
          taken-none room.unknown,
          inr (
            full-none room.tables_left,
            inr (many-none room.few_columns, inl (n, refl, is)),
          ),
        )

    pub create-key : NoneRepeats (new_names columns) → (n : Name) → IsFirstRepeat key n
        → First (create_causes tables name columns key) (DuplicateColumn n)
    create-key once n is =
        inr (
          taken-none room.unknown,
          inr (
            full-none room.tables_left,
            inr (many-none room.few_columns, inr (repeat-none (new_names columns) once, inl (n, refl, is))),
          ),
        )

    pub create-unknown : AreOnce columns key → (n : Name) → IsFirstUnknown (new_names columns) key n
        → First (create_causes tables name columns key) (UnknownIdentifier n)
    create-unknown once n is =
        inr (
          taken-none room.unknown,
          inr (
            full-none room.tables_left,
            inr (
              many-none room.few_columns,
              inr (
                repeat-none (new_names columns) once.0,
                inr (repeat-none key once.1, inl (n, refl, is)),
              ),
            ),
          ),
        )

-- ---- SELECT

module _ (table : Table) (select : TreeSelect) (query : Query) (known : AreKnown table select)
    (made : query_of table.columns select ≡ Some query) where
  -- a query that doesn't fit refuses the SELECT
  pub select-misfit : (refusal : Refusal) → IsMisfit table query refusal
      → First (asked_of table (select_causes select)) refusal
  select-misfit refusal (inl (is, misfit)) =
      inr (
        unknown-none (column_names table.columns) (column_names_of select) known,
        inl (
          is,
          λ q kinds.
              misfit (subst (KeepsKinds (kinds_of table)) (same_Some q query (sym kinds.made ∙ made))
              kinds.kept),
        ),
      )
  select-misfit refusal (inr (is, kept, broken)) =
      let kinds : KindsAre table select query = record { made = made; kept = kept } in
      inr (
        unknown-none (column_names table.columns) (column_names_of select) known,
        inr (
          when-none TypeMismatch ((q : Query) → KindsAre table select q → ⊥) (λ none. none query kinds),
          inl (is, (query, kinds, broken)),
        ),
      )
