-- The table of a CREATE (docs/GRAMMAR.md, "Binding").
use Rattle.std.specs.Prelude.{ℕ, List, map, fold}
use Rattle.std.specs.Option.{unwrap_or}
use Rattle.pj_grammar.specs.declared.types.ModeWord.{ModeWord}
use Rattle.pj_grammar.specs.declared.types.ModeWord.TheVariants as mode_words
use Rattle.pj_grammar.specs.declared.types.TableWord.{TableWord}
use Rattle.pj_grammar.specs.declared.types.TableWord.TheVariants as table_words
use Rattle.pj_grammar.specs.declared.types.TreeColumn.{TreeColumn}
use Rattle.pj_expr.specs.declared.table.ColumnDef.{ColumnDef}
use Rattle.pj_expr.specs.declared.table.LightMode.{LightMode}
use Rattle.pj_expr.specs.declared.table.LightMode.TheVariants as modes
use Rattle.pj_expr.specs.declared.table.Table.{Table}
use Rattle.pj_bind.specs.Names.{Name}
use Rattle.pj_bind.specs.Meanings.{column_number}

-- the column that a column of CREATE makes
abbrev pub column_of : TreeColumn → ColumnDef
column_of column = record { name = column.name; kind = column.kind }

-- the columns
abbrev pub columns_of : List TreeColumn → List ColumnDef
columns_of columns = map column_of columns

-- the numbers of the key's columns
abbrev pub key_of : List ColumnDef → List Name → List ℕ
key_of columns key = map (λ name. unwrap_or (column_number columns name) 0) key

-- the granularity after a setting
abbrev pub granularity_on : ℕ → TableWord → ℕ
granularity_on before (table_words.Granularity rows) = rows
granularity_on before (table_words.Mode word) = before

-- the granularity: the last one that is set, and 8,192 rows by default
abbrev pub granularity_of : List TableWord → ℕ
granularity_of settings = fold granularity_on 8192 settings

-- the mode that a word names
abbrev pub mode_named : ModeWord → LightMode
mode_named mode_words.Throw = modes.Throw
mode_named mode_words.Drop = modes.Drop
mode_named mode_words.Rebuild = modes.Rebuild

-- the mode after a setting
abbrev pub mode_on : LightMode → TableWord → LightMode
mode_on before (table_words.Granularity rows) = before
mode_on before (table_words.Mode word) = mode_named word

-- the mode of lightweight deletes: the last one that is set, and `throw` by default
abbrev pub mode_of : List TableWord → LightMode
mode_of settings = fold mode_on modes.Throw settings

-- the table
abbrev pub table_of : Name → List TreeColumn → List Name → List TableWord → Table
table_of name columns key settings = record {
  name = name;
  columns = columns_of columns;
  key = key_of (columns_of columns) key;
  granularity = granularity_of settings;
  mode = mode_of settings;
}
