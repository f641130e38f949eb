-- Laws over the definitions of this crate, each shown by a function of its own (src/laws.rt).
use Rattle.std.specs.Prelude.{◌≡◌, ◌⊎◌, ℕ, List, Some, slice_get}
use Rattle.pj_grammar.specs.declared.types.Statement.{Statement}
use Rattle.pj_grammar.specs.declared.types.Statement.TheVariants as statements
use Rattle.pj_grammar.specs.declared.types.TreeSelect.{TreeSelect}
use Rattle.pj_grammar.specs.Lexemes.{Lexeme}
use Rattle.pj_grammar.specs.grammar.Statements.{IsStatement}
use Rattle.pj_expr.specs.declared.query.Query.{Query}
use Rattle.pj_expr.specs.declared.table.Table.{Table}
use Rattle.pj_expr.specs.Tables.{kinds_of, TableFits}
use Rattle.pj_expr.specs.Fits.{FitsQuery}
use Rattle.pj_bind.specs.declared.types.Bound.{Bound}
use Rattle.pj_bind.specs.declared.types.Bound.TheVariants as bounds
use Rattle.pj_bind.specs.declared.types.Refusal.{Refusal}
use Rattle.pj_bind.specs.Built.{IsBuilt}
use Rattle.pj_bind.specs.Binding.{IsTableAt, IsBound, IsRefusal}

-- no two of the tables have one name
abbrev pub HasUniqueNames : List Table → Type 0
HasUniqueNames tables =
    (i j : ℕ) (a b : Table) → slice_get tables i ≡ Some a → slice_get tables j ≡ Some b → a.name ≡ b.name
    → i ≡ j

-- where no two tables have one name, each is the first of its name
abbrev pub EachIsFirst : Type 0
EachIsFirst =
    (tables : List Table) (number : ℕ) (table : Table) → HasUniqueNames tables
    → slice_get tables number ≡ Some table → IsTableAt tables table.name number table

-- a statement is refused in one way at most
abbrev pub OneRefusal : Type 0
OneRefusal =
    (tables : List Table) (statement : Statement) (a b : Refusal) → IsRefusal tables statement a
    → IsRefusal tables statement b → a ≡ b

-- a statement binds in one way at most
abbrev pub OneBound : Type 0
OneBound =
    (tables : List Table) (statement : Statement) (a b : Bound) → IsBound tables statement a
    → IsBound tables statement b → a ≡ b

-- a statement of a built form that binds isn't refused
abbrev pub NoBoundIsRefused : Type 0
NoBoundIsRefused =
    (tables : List Table) (statement : Statement) (bound : Bound) (refusal : Refusal) → IsBuilt statement
    → IsBound tables statement bound → IsRefusal tables statement refusal → ⊥

-- each statement has a built form and binds, or is refused
abbrev pub BoundOrRefused : Type 0
BoundOrRefused =
    (tables : List Table) (statement : Statement)
    → ((bound : Bound) × IsBuilt statement × IsBound tables statement bound)
    ⊎ ((refusal : Refusal) × IsRefusal tables statement refusal)

-- the query fits the table of this name that has this number
abbrev pub FitsTableAt : List Table → List ℕ → ℕ → Query → Type 0
FitsTableAt tables name number query =
    (table : Table) × IsTableAt tables name number table × FitsQuery (kinds_of table) query

-- the query that a SELECT binds to fits its table
abbrev pub BoundQueriesFit : Type 0
BoundQueriesFit =
    (tables : List Table) (select : TreeSelect) (number : ℕ) (query : Query)
    → IsBound tables (statements.Select select) (bounds.Select number query)
    → FitsTableAt tables select.table number query

-- the table of a CREATE that is a statement of the grammar and binds may be made
abbrev pub BoundTablesFit : Type 0
BoundTablesFit =
    (ts : List Lexeme) (statement : Statement) (tables : List Table) (table : Table)
    → IsStatement ts statement
    → IsBound tables statement (bounds.Create table) → TableFits table
