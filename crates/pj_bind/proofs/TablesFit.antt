-- The table of a CREATE that is a statement: its key isn't empty, and its granules have a size.
use Rattle.std.proofs.Common.{◌≡◌, ℕ, ◌<◌, ◌≤◌, List, [], ◌∷◌, length, fold, Bool, true, false}
use Rattle.std.proofs.Common.{Option, Some, None, refl, sym, subst, inl, inr, arith}
use Rattle.std.specs.Prelude.{◌&&◌, nat_le, nat_lt, cond, unwrap_or, codes}
use Rattle.std.specs.List.{AllByRecursion, position_or_len}
use Rattle.std.specs.Str.{bytes_eq}
use Rattle.std.proofs.lemmas.Bool.{false≢true, leb-true, ltb-true}
use Rattle.std.proofs.lemmas.List.{length-map}
use Rattle.pj_grammar.specs.declared.types.Tree.{Tree}
use Rattle.pj_grammar.specs.declared.types.TreeColumn.{TreeColumn}
use Rattle.pj_grammar.specs.declared.types.TableWord.{TableWord}
use Rattle.pj_grammar.specs.declared.types.TableWord.TheVariants as table_words
use Rattle.pj_grammar.specs.declared.types.Statement.{Statement}
use Rattle.pj_grammar.specs.declared.types.Statement.TheVariants as statements
use Rattle.pj_grammar.specs.Lexemes.{Lexeme, word, number, text, symbol, is_number, number_of}
use Rattle.pj_lex.specs.declared.token.Symbol.TheVariants.{Comma}
use Rattle.pj_grammar.specs.grammar.Ebnf.{Grammar, many, optional}
use Rattle.pj_grammar.specs.grammar.Words as words
use Rattle.pj_grammar.specs.grammar.Words.{keyword, sign, behind, listed, or_empty}
use Rattle.pj_grammar.specs.grammar.Settings.{table_set}
use Rattle.pj_grammar.specs.grammar.Tables as grammar
use Rattle.pj_grammar.specs.grammar.Tables.{table_sets, create}
use Rattle.pj_grammar.specs.grammar.Statements.{statement}
use Rattle.pj_expr.specs.declared.table.ColumnDef.{ColumnDef}
use Rattle.pj_expr.specs.declared.table.Table.{Table}
use Rattle.pj_expr.specs.Tables.{granule_limit, TableFits}
use Rattle.pj_bind.specs.declared.types.Bound.TheVariants as bounds
use Rattle.pj_bind.specs.Names.{Name}
use Rattle.pj_bind.specs.Meanings.{column_number}
use Rattle.pj_bind.specs.Tables.{column_of, columns_of, key_of, granularity_on, table_of}
use Rattle.pj_bind.specs.Binding.{IsBound}
use Rattle.pj_bind.specs.Laws.{BoundTablesFit}

-- ---- the grammar

-- a granularity in range
abbrev IsGranularity : ℕ → Type 0
IsGranularity rows = (1 ≤ rows) × (rows ≤ granule_limit)

-- a setting that sets one, if any
abbrev IsSetting : TableWord → Type 0
IsSetting (table_words.Granularity rows) = IsGranularity rows
IsSetting (table_words.Mode mode) = Unit {0}

-- a statement that is no CREATE, or one with a column, a key and such settings
abbrev IsWhole : Statement → Type 0
IsWhole (statements.Create name columns projections key settings) =
    (1 ≤ length columns) × (1 ≤ length key) × AllByRecursion IsSetting settings
IsWhole statement = Unit {0}

-- a test of two
both : (a b : Bool) → (a && b) ≡ true → (a ≡ true) × (b ≡ true)
both true true e = (refl, refl)
both true false e = absurd (false≢true e)
both false b e = absurd (false≢true e)

-- a number in range
in_range : (lexeme : Lexeme) → is_number (λ n. nat_le 1 n && nat_le n 65536) lexeme ≡ true
    → IsGranularity (number_of lexeme)
in_range (word bytes) e = absurd (false≢true e)
in_range (number n) e =
    let parts = both (nat_le 1 n) (nat_le n 65536) e in
    (leb-true 1 n parts.0, leb-true n 65536 parts.1)
in_range (text bytes) e = absurd (false≢true e)
in_range (symbol s) e = absurd (false≢true e)

-- a setting
IsSetting-from : (ts : List Lexeme) (setting : TableWord) → table_set ts setting → IsSetting setting
IsSetting-from ts setting (inl rule) =
    let one = rule.one.other.other in
    let rows : IsGranularity rule.found = rw one.taken (in_range one.lexeme one.passes) in
    subst IsSetting (sym rule.other.is) rows
IsSetting-from ts setting (inr rule) = subst IsSetting (sym rule.other.is) tt

-- what holds of each value of a rule holds of many
many-all : {A : Type 0} (rule : Grammar A) (P : A → Type 0)
    → ((ts : List Lexeme) (value : A) → rule ts value → P value)
    → (ts : List Lexeme) (values : List A) → many rule ts values → AllByRecursion P values
many-all rule P each ts [] found = tt
many-all rule P each ts (value ∷ values) (front, back, e, one, more) =
    (each front value one, many-all rule P each back values more)

-- and of a list with commas
listed-all : {A : Type 0} (rule : Grammar A) (P : A → Type 0)
    → ((ts : List Lexeme) (value : A) → rule ts value → P value)
    → (ts : List Lexeme) (values : List A) → listed rule ts values → AllByRecursion P values
listed-all rule P each ts values found =
    subst (AllByRecursion P) (sym found.other.other.is) (
      each found.front found.found found.one,
      many-all (behind (sign Comma) rule) P (λ more value one. each one.back value one.other)
          found.other.front
          found.other.found found.other.one,
    )

-- a list with commas isn't empty
listed-some : {A : Type 0} (rule : Grammar A) (ts : List Lexeme) (values : List A) → listed rule ts values
    → 1 ≤ length values
listed-some rule ts values found = rw found.other.other.is (omega arith)

-- a key isn't empty
key-some : (ts : List Lexeme) (names : List Name) → grammar.key ts names → 1 ≤ length names
key-some ts names (inl rule) =
    let inner = rule.other in
    rw inner.other.other.is (listed-some words.name inner.front inner.found inner.one)
key-some ts names (inr rule) = rw rule.other.is (omega arith)

-- the settings of a table
settings-all : (ts : List Lexeme) (settings : List TableWord) → table_sets ts settings
    → AllByRecursion IsSetting settings
settings-all ts settings rule =
    subst (AllByRecursion IsSetting) (sym rule.other.is) (by rule.front rule.found rule.one)
  where
    by : (front : List Lexeme) (list : Option (List TableWord))
        → optional (behind (keyword (codes "SETTINGS")) (listed table_set)) front list
        → AllByRecursion IsSetting (or_empty list)
    by front list (inl found) =
        subst (λ o. AllByRecursion IsSetting (or_empty o)) (sym found.other.is)
        (listed-all table_set IsSetting IsSetting-from found.one.back found.found found.one.other)
    by front list (inr nothing) = subst (λ o. AllByRecursion IsSetting (or_empty o)) (sym nothing.is) tt

-- a CREATE
create-whole : (value : Grammar Tree) (ts : List Lexeme) (s : Statement) → create value ts s → IsWhole s
create-whole value ts s rule =
    let behind_name = rule.other.other.other in
    let behind_engine = behind_name.other.other in
    let last = behind_engine.other in
    subst IsWhole (sym last.other.is) (
      omega arith,
      key-some behind_engine.one.other.back behind_engine.found behind_engine.one.other.other,
      settings-all last.front last.found last.one,
    )

-- a statement
statement-whole : (value : Grammar Tree) (ts : List Lexeme) (s : Statement) → statement value ts s → IsWhole s
statement-whole value ts s (inl rule) = create-whole value ts s rule
statement-whole value ts s (inr (inl rule)) = subst IsWhole (sym rule.other.other.other.other.other.is) tt
statement-whole value ts s (inr (inr (inl rule))) = subst IsWhole (sym rule.other.is) tt
statement-whole value ts s (inr (inr (inr (inl rule)))) = subst IsWhole (sym rule.other.is) tt
statement-whole value ts s (inr (inr (inr (inr (inl rule))))) =
    subst IsWhole (sym rule.other.other.other.other.other.is) tt
statement-whole value ts s (inr (inr (inr (inr (inr (inl rule)))))) =
    subst IsWhole (sym rule.other.other.other.other.other.is) tt
statement-whole value ts s (inr (inr (inr (inr (inr (inr (inl rule))))))) =
    subst IsWhole (sym rule.other.other.other.other.is) tt
statement-whole value ts s (inr (inr (inr (inr (inr (inr (inr (inl rule)))))))) =
    subst IsWhole (sym rule.other.other.is) tt
statement-whole value ts s (inr (inr (inr (inr (inr (inr (inr (inr (inl rule))))))))) =
    subst IsWhole (sym rule.other.is) tt
statement-whole value ts s (inr (inr (inr (inr (inr (inr (inr (inr (inr rule))))))))) =
    subst IsWhole (sym rule.other.is) tt

-- ---- the table

-- a number of a column
number-within : (columns : List ColumnDef) (name : Name) → 1 ≤ length columns
    → unwrap_or (column_number columns name) 0 < length columns
number-within columns name some = by (nat_lt at (length columns)) refl
  where
    at : ℕ
    at = position_or_len (λ column. bytes_eq column.name name) columns

    by : (b : Bool) → nat_lt at (length columns) ≡ b → unwrap_or (cond b (Some at) None) 0 < length columns
    by true e = ltb-true at (length columns) e
    by false e = omega (arith, some)

-- the numbers of a key
numbers-within : (columns : List ColumnDef) (names : List Name) → 1 ≤ length columns
    → AllByRecursion (λ column. column < length columns) (key_of columns names)
numbers-within columns [] some = tt
numbers-within columns (name ∷ names) some =
    (number-within columns name some, numbers-within columns names some)

-- a granularity after settings
granularity-in : (settings : List TableWord) (before : ℕ) → AllByRecursion IsSetting settings
    → IsGranularity before → IsGranularity (fold granularity_on before settings)
granularity-in [] before all first = first
granularity-in (table_words.Granularity rows ∷ settings) before all first =
    granularity-in settings rows all.1 all.0
granularity-in (table_words.Mode mode ∷ settings) before all first =
    granularity-in settings before all.1 first

-- the table that a CREATE makes
table_of-fits : (name : Name) (columns : List TreeColumn) (key : List Name) (settings : List TableWord)
    → (1 ≤ length columns) × (1 ≤ length key) × AllByRecursion IsSetting settings
    → TableFits (table_of name columns key settings)
table_of-fits name columns key settings whole =
    let columns_some : 1 ≤ length (columns_of columns) = rw (length-map columns column_of) whole.0 in
    let rows = granularity-in settings 8192 whole.2 (omega arith, omega arith) in
    record {
      keyed =
          rw (length-map key (λ n. unwrap_or (column_number (columns_of columns) n) 0)) whole.1;
      within = numbers-within (columns_of columns) key columns_some;
      some_rows = rows.0;
      few_rows = rows.1;
    }

-- and that a whole statement binds to
TableFits-from : (s : Statement) (tables : List Table) (table : Table) → IsWhole s
    → IsBound tables s (bounds.Create table) → TableFits table
TableFits-from (statements.Create name columns projections key settings) tables table whole (can, is) =
    let same : table ≡ table_of name columns key settings = cc in
    subst TableFits (sym same) (table_of-fits name columns key settings whole)
TableFits-from (statements.Insert name listed rows) tables table whole (i, other, here, are, fill, is) = cc
TableFits-from (statements.Select select) tables table whole (i, other, here, (query, asks, is)) = cc
TableFits-from s tables table whole binds = absurd binds

-- the table of a CREATE of the grammar
pub bound_tables_fit : BoundTablesFit
bound_tables_fit ts s tables table (depth, rule) binds =
    TableFits-from s tables table (subst IsWhole (sym rule.other.other.is)
    (statement-whole _ rule.front rule.found rule.one)) binds
