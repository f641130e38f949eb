-- How statements are read. Of public contracts those of `pj_phrase` and
-- `pj_sentence` alone cite it.
use Rattle.std.specs.Prelude.{ℕ, Bool, true, false, List, [], ◌∷◌, length}
use Rattle.std.specs.Prelude.{Option, None, Result, Ok, Err, codes}
use Rattle.pj_value.specs.declared.value.Value.{Value}
use Rattle.pj_value.specs.declared.value.Value.TheVariants as values
use Rattle.pj_lex.specs.declared.token.Symbol.TheVariants.{Left, Semicolon, Eq}
use Rattle.pj_grammar.specs.declared.types.Tree.{Tree}
use Rattle.pj_grammar.specs.declared.types.TreeAssign.{TreeAssign}
use Rattle.pj_grammar.specs.declared.types.TreeAction.{TreeAction}
use Rattle.pj_grammar.specs.declared.types.TreeAction.TheVariants as actions
use Rattle.pj_grammar.specs.declared.types.TreeSelect.{TreeSelect}
use Rattle.pj_grammar.specs.declared.types.Statement.{Statement}
use Rattle.pj_grammar.specs.declared.types.Statement.TheVariants as statements
use Rattle.pj_grammar.specs.Lexemes.{Lexeme, is_symbol, is_function_name, is_keyword, is_any_number}
use Rattle.pj_grammar.specs.parsing.Parser.{Answer, Parser, ◌>>=◌, nothing_at, or_at, optional_at}
use Rattle.pj_grammar.specs.parsing.Words.{keyword_at, sign_at, name_at, list_name_at, name_but_if_at}
use Rattle.pj_grammar.specs.parsing.Words.{list_name_but_if_at, function_name_at, number_at, text_at}
use Rattle.pj_grammar.specs.parsing.Words.{listed_at, in_parens_at}
use Rattle.pj_grammar.specs.parsing.Settings.{set_list_at, own_sets_at, mode_at}
use Rattle.pj_grammar.specs.parsing.Values.{value_at}
use Rattle.pj_grammar.specs.parsing.Selects.{where_value_at, select_at, explain_at}
use Rattle.pj_grammar.specs.parsing.Tables.{names_in_parens_at, proj_at, create_at}

-- literal
unfoldable pub literal_at : Parser Value
literal_at =
    or_at is_any_number (number_at >>= λ n. nothing_at (values.Num n))
    (text_at >>= λ bytes. nothing_at (values.Text bytes))

-- literal {"," literal}
unfoldable pub literals_at : Parser (List Value)
literals_at = listed_at literal_at

-- row
unfoldable pub row_at : Parser (List Value)
row_at = in_parens_at literals_at

-- row {"," row}
unfoldable pub rows_at : Parser (List (List Value))
rows_at = listed_at row_at

-- name ["(" name {"," name} ")"]
unfoldable pub target_at : Parser (List ℕ × Option (List (List ℕ)))
target_at =
    or_at is_function_name
    (function_name_at >>= λ table. nothing_at (table, None))
    (list_name_at >>= λ table. optional_at (is_symbol Left) names_in_parens_at >>= λ columns. nothing_at
    (table, columns))

-- insert
unfoldable pub insert_at : Parser Statement
insert_at = do
  _ ← keyword_at (codes "INSERT")
  _ ← keyword_at (codes "INTO")
  into ← target_at
  _ ← keyword_at (codes "VALUES")
  rows ← rows_at
  nothing_at (statements.Insert into.0 into.1 rows)

-- delete
unfoldable pub delete_at : Parser Tree → Parser Statement
delete_at value = do
  _ ← keyword_at (codes "DELETE")
  _ ← keyword_at (codes "FROM")
  table ← name_at
  filter ← where_value_at value
  own ← own_sets_at
  nothing_at (statements.Delete table filter own)

-- [IF EXISTS] name
unfoldable pub maybe_there_at : Parser (Bool × List ℕ)
maybe_there_at =
    or_at (is_keyword (codes "IF"))
    (do
      _ ← keyword_at (codes "IF")
      _ ← keyword_at (codes "EXISTS")
      bytes ← name_at
      nothing_at (true, bytes))
    (name_but_if_at >>= λ bytes. nothing_at (false, bytes))

-- PROJECTION [IF EXISTS] name, behind a keyword
unfoldable pub projection_there_at : List ℕ → Parser (Bool × List ℕ)
projection_there_at capitals = do
  _ ← keyword_at capitals
  _ ← keyword_at (codes "PROJECTION")
  maybe_there_at

-- the same, as the action that it means
abbrev pub on_projection_at : List ℕ → (Bool → List ℕ → TreeAction) → Parser TreeAction
on_projection_at capitals meaning =
    projection_there_at capitals >>= λ named. nothing_at (meaning named.0 named.1)

-- [IF NOT EXISTS] proj
unfoldable pub maybe_not_there_at : Parser Tree → Parser TreeAction
maybe_not_there_at value =
    or_at (is_keyword (codes "IF"))
    (do
      _ ← keyword_at (codes "IF")
      _ ← keyword_at (codes "NOT")
      _ ← keyword_at (codes "EXISTS")
      projection ← proj_at list_name_at value
      nothing_at (actions.Add true projection))
    (proj_at list_name_but_if_at value >>= λ projection. nothing_at (actions.Add false projection))

-- ADD PROJECTION [IF NOT EXISTS] proj
unfoldable pub add_at : Parser Tree → Parser TreeAction
add_at value = do
  _ ← keyword_at (codes "ADD")
  _ ← keyword_at (codes "PROJECTION")
  maybe_not_there_at value

-- name "=" value
unfoldable pub assign_at : Parser Tree → Parser TreeAssign
assign_at value = do
  column ← name_at
  _ ← sign_at Eq
  to ← value
  nothing_at (record { column = column; value = to })

-- name "=" value {"," name "=" value}
unfoldable pub assigns_at : Parser Tree → Parser (List TreeAssign)
assigns_at value = listed_at (assign_at value)

-- UPDATE .. WHERE value
unfoldable pub update_at : Parser Tree → Parser TreeAction
update_at value = do
  _ ← keyword_at (codes "UPDATE")
  assigns ← assigns_at value
  filter ← where_value_at value
  nothing_at (actions.Update assigns filter)

-- DELETE WHERE value
unfoldable pub delete_rows_at : Parser Tree → Parser TreeAction
delete_rows_at value = do
  _ ← keyword_at (codes "DELETE")
  filter ← where_value_at value
  nothing_at (actions.Delete filter)

-- MODIFY SETTING mode
unfoldable pub modify_at : Parser TreeAction
modify_at = do
  _ ← keyword_at (codes "MODIFY")
  _ ← keyword_at (codes "SETTING")
  to ← mode_at
  nothing_at (actions.Mode to)

-- action
unfoldable pub action_at : Parser Tree → Parser TreeAction
action_at value =
    or_at (is_keyword (codes "ADD")) (add_at value)
    (or_at (is_keyword (codes "DROP")) (on_projection_at (codes "DROP") actions.Drop)
    (or_at (is_keyword (codes "MATERIALIZE")) (on_projection_at (codes "MATERIALIZE") actions.Materialize)
    (or_at (is_keyword (codes "CLEAR")) (on_projection_at (codes "CLEAR") actions.Clear)
    (or_at (is_keyword (codes "DELETE")) (delete_rows_at value)
    (or_at (is_keyword (codes "UPDATE")) (update_at value) modify_at)))))

-- alter
unfoldable pub alter_at : Parser Tree → Parser Statement
alter_at value = do
  _ ← keyword_at (codes "ALTER")
  _ ← keyword_at (codes "TABLE")
  table ← name_at
  does ← action_at value
  own ← own_sets_at
  nothing_at (statements.Alter table does own)

-- OPTIMIZE TABLE name FINAL
unfoldable pub optimize_at : Parser Statement
optimize_at = do
  _ ← keyword_at (codes "OPTIMIZE")
  _ ← keyword_at (codes "TABLE")
  table ← name_at
  _ ← keyword_at (codes "FINAL")
  nothing_at (statements.Optimize table)

-- SET sets
unfoldable pub set_session_at : Parser Statement
set_session_at = do
  _ ← keyword_at (codes "SET")
  list ← set_list_at
  nothing_at (statements.Set list)

-- a keyword and a table's name
unfoldable pub table_behind_at : List ℕ → Parser (List ℕ)
table_behind_at capitals = do
  _ ← keyword_at capitals
  name_at

-- MERGE name, MUTATE name
abbrev pub task_at : List ℕ → (List ℕ → Statement) → Parser Statement
task_at capitals meaning = table_behind_at capitals >>= λ table. nothing_at (meaning table)

-- a SELECT, or what EXPLAIN is asked of
abbrev pub selecting_at : Parser TreeSelect → (TreeSelect → Statement) → Parser Statement
selecting_at parser meaning = parser >>= λ query. nothing_at (meaning query)

-- statement
unfoldable pub statement_at : Parser Tree → Parser Statement
statement_at value =
    or_at (is_keyword (codes "CREATE")) (create_at value)
    (or_at (is_keyword (codes "INSERT")) insert_at
    (or_at (is_keyword (codes "SELECT")) (selecting_at (select_at value) statements.Select)
    (or_at (is_keyword (codes "EXPLAIN")) (selecting_at (explain_at value) statements.Explain)
    (or_at (is_keyword (codes "DELETE")) (delete_at value)
    (or_at (is_keyword (codes "ALTER")) (alter_at value)
    (or_at (is_keyword (codes "OPTIMIZE")) optimize_at
    (or_at (is_keyword (codes "SET")) set_session_at
    (or_at (is_keyword (codes "MERGE")) (task_at (codes "MERGE") statements.Merge)
    (task_at (codes "MUTATE") statements.Mutate)))))))))

-- sentence
unfoldable pub sentence_at : Parser Tree → Parser Statement
sentence_at value = do
  one ← statement_at value
  _ ← optional_at (is_symbol Semicolon) (sign_at Semicolon)
  nothing_at one

-- nothing may stand behind a sentence
abbrev pub to_end : Answer Statement → Result Statement (List Lexeme)
to_end (Ok (one, [])) = Ok one
to_end (Ok (one, t ∷ ts)) = Err (t ∷ ts)
to_end (Err rest) = Err rest

-- the statement of a whole sentence, or the lexemes from the first that doesn't fit
unfoldable pub whole_sentence : List Lexeme → Result Statement (List Lexeme)
whole_sentence ts = to_end (sentence_at (value_at (length ts)) ts)
