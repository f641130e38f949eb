-- The statements of the grammar (docs/GRAMMAR.md, "Statements").
use Rattle.std.specs.Prelude.{ℕ, Bool, true, false, List, Option, None, codes}
use Rattle.pj_value.specs.declared.value.Value.{Value}
use Rattle.pj_value.specs.declared.value.Value.TheVariants as values
use Rattle.pj_lex.specs.declared.token.Symbol.TheVariants.{Semicolon, Eq}
use Rattle.pj_grammar.specs.declared.types.Tree.{Tree}
use Rattle.pj_grammar.specs.declared.types.TreeAssign.{TreeAssign}
use Rattle.pj_grammar.specs.declared.types.TreeSelect.{TreeSelect}
use Rattle.pj_grammar.specs.declared.types.TreeAction.{TreeAction}
use Rattle.pj_grammar.specs.declared.types.TreeAction.TheVariants as actions
use Rattle.pj_grammar.specs.declared.types.Statement.{Statement}
use Rattle.pj_grammar.specs.declared.types.Statement.TheVariants as statements
use Rattle.pj_grammar.specs.Lexemes.{Lexeme}
use Rattle.pj_grammar.specs.grammar.Ebnf.{Grammar, Nothing, ◌>>=◌, ◌or◌, optional}
use Rattle.pj_grammar.specs.grammar.Words.{keyword, sign, name, list_name, name_but_if, list_name_but_if}
use Rattle.pj_grammar.specs.grammar.Words.{function_name, number, text, listed, in_parens}
use Rattle.pj_grammar.specs.grammar.Settings.{set_list, own_sets, mode}
use Rattle.pj_grammar.specs.grammar.Values.{value_to}
use Rattle.pj_grammar.specs.grammar.Selects.{where_value, select, explain}
use Rattle.pj_grammar.specs.grammar.Tables.{proj, column, create}

-- literal = number | text
abbrev pub literal : Grammar Value
literal =
    (do
      n ← number
      Nothing (values.Num n))
    or (do
      bytes ← text
      Nothing (values.Text bytes))

-- row = "(" literal {"," literal} ")"
abbrev pub row : Grammar (List Value)
row = in_parens (listed literal)

-- name ["(" name {"," name} ")"]
abbrev pub target : Grammar (List ℕ × Option (List (List ℕ)))
target =
    (do
      table ← function_name
      Nothing (table, None))
    or (do
      table ← list_name
      columns ← optional (in_parens (listed name))
      Nothing (table, columns))

-- insert = INSERT INTO name ["(" name {"," name} ")"] VALUES row {"," row}
abbrev pub insert : Grammar Statement
insert = do
  _ ← keyword (codes "INSERT")
  _ ← keyword (codes "INTO")
  into ← target
  _ ← keyword (codes "VALUES")
  rows ← listed row
  Nothing (statements.Insert into.0 into.1 rows)

-- delete = DELETE FROM name WHERE value [SETTINGS sets]
abbrev pub delete : Grammar Tree → Grammar Statement
delete value = do
  _ ← keyword (codes "DELETE")
  _ ← keyword (codes "FROM")
  table ← name
  filter ← where_value value
  own ← own_sets
  Nothing (statements.Delete table filter own)

-- [IF EXISTS] name
abbrev pub maybe_there : Grammar (Bool × List ℕ)
maybe_there =
    (do
      _ ← keyword (codes "IF")
      _ ← keyword (codes "EXISTS")
      bytes ← name
      Nothing (true, bytes))
    or (do
      bytes ← name_but_if
      Nothing (false, bytes))

-- a keyword, PROJECTION [IF EXISTS] name
abbrev pub projection_there : List ℕ → Grammar (Bool × List ℕ)
projection_there capitals = do
  _ ← keyword capitals
  _ ← keyword (codes "PROJECTION")
  maybe_there

-- the same, as the action that it means
abbrev pub on_projection : List ℕ → (Bool → List ℕ → TreeAction) → Grammar TreeAction
on_projection capitals meaning = do
  named ← projection_there capitals
  Nothing (meaning named.0 named.1)

-- [IF NOT EXISTS] proj
abbrev pub maybe_not_there : Grammar Tree → Grammar TreeAction
maybe_not_there value =
    (do
      _ ← keyword (codes "IF")
      _ ← keyword (codes "NOT")
      _ ← keyword (codes "EXISTS")
      projection ← proj list_name value
      Nothing (actions.Add true projection))
    or (do
      projection ← proj list_name_but_if value
      Nothing (actions.Add false projection))

-- ADD PROJECTION [IF NOT EXISTS] proj
abbrev pub add : Grammar Tree → Grammar TreeAction
add value = do
  _ ← keyword (codes "ADD")
  _ ← keyword (codes "PROJECTION")
  maybe_not_there value

-- name "=" value
abbrev pub assign : Grammar Tree → Grammar TreeAssign
assign value = do
  column ← name
  _ ← sign Eq
  to ← value
  Nothing (record { column = column; value = to })

-- UPDATE name "=" value {"," name "=" value} WHERE value
abbrev pub update : Grammar Tree → Grammar TreeAction
update value = do
  _ ← keyword (codes "UPDATE")
  assigns ← listed (assign value)
  filter ← where_value value
  Nothing (actions.Update assigns filter)

-- DELETE WHERE value
abbrev pub delete_rows : Grammar Tree → Grammar TreeAction
delete_rows value = do
  _ ← keyword (codes "DELETE")
  filter ← where_value value
  Nothing (actions.Delete filter)

-- MODIFY SETTING mode
abbrev pub modify : Grammar TreeAction
modify = do
  _ ← keyword (codes "MODIFY")
  _ ← keyword (codes "SETTING")
  to ← mode
  Nothing (actions.Mode to)

-- action = ADD .. | DROP .. | MATERIALIZE .. | CLEAR .. | DELETE .. | UPDATE .. | MODIFY ..
abbrev pub action : Grammar Tree → Grammar TreeAction
action value =
    add value
    or (on_projection (codes "DROP") actions.Drop
    or (on_projection (codes "MATERIALIZE") actions.Materialize
    or (on_projection (codes "CLEAR") actions.Clear or (delete_rows value or (update value or modify)))))

-- alter = ALTER TABLE name action [SETTINGS sets]
abbrev pub alter : Grammar Tree → Grammar Statement
alter value = do
  _ ← keyword (codes "ALTER")
  _ ← keyword (codes "TABLE")
  table ← name
  does ← action value
  own ← own_sets
  Nothing (statements.Alter table does own)

-- OPTIMIZE TABLE name FINAL
abbrev pub optimize : Grammar Statement
optimize = do
  _ ← keyword (codes "OPTIMIZE")
  _ ← keyword (codes "TABLE")
  table ← name
  _ ← keyword (codes "FINAL")
  Nothing (statements.Optimize table)

-- SET sets
abbrev pub set_session : Grammar Statement
set_session = do
  _ ← keyword (codes "SET")
  list ← set_list
  Nothing (statements.Set list)

-- a keyword and a table's name
abbrev pub table_behind : List ℕ → Grammar (List ℕ)
table_behind capitals = do
  _ ← keyword capitals
  name

-- MERGE name, MUTATE name
abbrev pub task : List ℕ → (List ℕ → Statement) → Grammar Statement
task capitals meaning = do
  table ← table_behind capitals
  Nothing (meaning table)

-- a SELECT, or what EXPLAIN is asked of
abbrev pub selecting : Grammar TreeSelect → (TreeSelect → Statement) → Grammar Statement
selecting rule meaning = do
  query ← rule
  Nothing (meaning query)

-- statement = create | insert | select | explain | delete | alter | OPTIMIZE .. | SET sets | MERGE name |
-- MUTATE name
abbrev pub statement : Grammar Tree → Grammar Statement
statement value =
    create value
    or (insert
    or (selecting (select value) statements.Select
    or (selecting (explain value) statements.Explain
    or (delete value
    or (alter value
    or (optimize
    or (set_session or
    (task (codes "MERGE") statements.Merge or task (codes "MUTATE") statements.Mutate))))))))

-- sentence = statement [";"]
abbrev pub sentence : Grammar Tree → Grammar Statement
sentence value = do
  one ← statement value
  _ ← optional (sign Semicolon)
  Nothing one

-- these lexemes are the sentence of this statement
abbrev pub IsStatement : List Lexeme → Statement → Type 0
IsStatement ts statement = (depth : ℕ) × sentence (value_to depth) ts statement
