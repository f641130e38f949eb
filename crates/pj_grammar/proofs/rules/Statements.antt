-- The rules of statements are read exactly.
use Prim.Native.String.{String}
use Rattle.std.proofs.Common.{◌≡◌, ℕ, true, false, [], ◌∷◌, refl, None}
use Rattle.std.specs.Prelude.{codes}
use Rattle.pj_value.specs.declared.value.Value.TheVariants as values
use Rattle.pj_lex.specs.declared.token.Symbol.TheVariants.{Left, Comma, Semicolon, Eq}
use Rattle.pj_grammar.specs.declared.types.Tree.{Tree}
use Rattle.pj_grammar.specs.declared.types.TreeAction.TheVariants as actions
use Rattle.pj_grammar.specs.declared.types.Statement.TheVariants as statements
use Rattle.pj_grammar.specs.grammar.Ebnf.{Grammar}
use Rattle.pj_grammar.specs.parsing.Parser.{Parser}
use Rattle.pj_grammar.specs.grammar.Words.{listed}
use Rattle.pj_grammar.specs.grammar.Statements as rules
use Rattle.pj_grammar.specs.Lexemes.{is_function_name, is_any_number}
use Rattle.pj_grammar.specs.parsing.Statements as parsers
use Rattle.pj_grammar.proofs.kinds.Sets as kinds
use Rattle.pj_grammar.proofs.kinds.Sets.{Kinds, none, ◌∪◌}
use Rattle.pj_grammar.proofs.kinds.Tests.{keyword_kind, sign_kind, function_name_kind, number_kind}
use Rattle.pj_grammar.proofs.rules.Words.{Exactly, is_capital_keyword, keyword_reads, sign_reads, name_reads}
use Rattle.pj_grammar.proofs.rules.Words.{list_name_reads, name_but_if_reads, list_name_but_if_reads}
use Rattle.pj_grammar.proofs.rules.Words.{function_name_reads, number_reads, text_reads}
use Rattle.pj_grammar.proofs.reads.Reads.{Reads}
use Rattle.pj_grammar.proofs.reads.One.{reads_as}
use Rattle.pj_grammar.proofs.reads.Choice.{or_reads, optional_reads}
use Rattle.pj_grammar.proofs.reads.Sequence.{seq, seq_opt, end, end_opt, listed_reads, in_parens_reads}
use Rattle.pj_grammar.proofs.rules.Settings.{set_list_reads, own_sets_reads, mode_reads}
use Rattle.pj_grammar.proofs.rules.Values.{value_first, value_more}
use Rattle.pj_grammar.proofs.rules.Lone.{Lone}
use Rattle.pj_grammar.proofs.rules.Selects.{select_more, where_value_reads, select_reads, explain_reads}
use Rattle.pj_grammar.proofs.rules.Tables.{names_in_parens_reads, proj_behind_reads, create_reads}

module _ (n : ℕ) where
  -- literal
  pub literal_reads : Exactly (kinds.number ∪ kinds.text) none false n rules.literal parsers.literal_at
  unfolding parsers.literal_at
  literal_reads =
      reads_as (or_reads (end (number_reads n) values.Num)
      (end (text_reads n) values.Text) refl is_any_number number_kind)
      refl refl

  -- literal {"," literal}
  pub literals_reads : Exactly (kinds.number ∪ kinds.text) (kinds.sign Comma) false n (listed rules.literal)
      parsers.literals_at
  unfolding parsers.literals_at
  literals_reads = reads_as (listed_reads literal_reads refl refl) refl refl

  -- row
  pub row_reads : Exactly (kinds.sign Left) none false n rules.row parsers.row_at
  unfolding parsers.row_at
  row_reads = in_parens_reads literals_reads refl refl

  -- row {"," row}
  pub rows_reads : Exactly (kinds.sign Left) (kinds.sign Comma) false n (listed rules.row) parsers.rows_at
  unfolding parsers.rows_at
  rows_reads = reads_as (listed_reads row_reads refl refl) refl refl

  -- name ["(" name {"," name} ")"]
  pub target_reads : Exactly kinds.name (kinds.sign Left) false n rules.target parsers.target_at
  unfolding parsers.target_at
  target_reads =
      reads_as
      (or_reads (end (function_name_reads n) (λ table. (table, None)))
      (seq_opt (list_name_reads n)
      (λ table. end_opt (optional_reads (names_in_parens_reads n) _ (sign_kind Left))
      (λ columns. (table, columns)))
      refl)
      refl is_function_name function_name_kind)
      refl refl

  -- insert
  pub insert_reads : Exactly (kinds.keyword "INSERT") (kinds.sign Comma) false n rules.insert
      parsers.insert_at
  unfolding parsers.insert_at
  insert_reads =
      reads_as
      (seq (keyword_reads n "INSERT" refl)
      (λ _. seq (keyword_reads n "INTO" refl)
      (λ _. seq target_reads
      (λ into. seq (keyword_reads n "VALUES" refl)
      (λ _. end rows_reads (λ rows. statements.Insert into.0 into.1 rows)) refl)
      refl) refl) refl)
      refl refl

  -- [IF EXISTS] name
  pub maybe_there_reads : Exactly kinds.name none false n rules.maybe_there parsers.maybe_there_at
  unfolding parsers.maybe_there_at
  maybe_there_reads =
      reads_as
      (or_reads (seq (keyword_reads n "IF" refl)
      (λ _. seq (keyword_reads n "EXISTS" refl) (λ _. end (name_reads n) (λ bytes. (true, bytes))) refl) refl)
      (end (name_but_if_reads n) (λ bytes. (false, bytes))) refl _ (keyword_kind "IF" refl))
      refl refl

  -- PROJECTION [IF EXISTS] name, behind DROP, MATERIALIZE or CLEAR
  pub projection_there_reads : (capitals : String) → is_capital_keyword (codes capitals) ≡ true
      → Exactly (kinds.keyword capitals) none false n (rules.projection_there (codes capitals))
      (parsers.projection_there_at (codes capitals))
  unfolding parsers.projection_there_at
  projection_there_reads capitals known =
      seq (keyword_reads n capitals known)
      (λ _. seq (keyword_reads n "PROJECTION" refl) (λ _. maybe_there_reads) refl) refl

  -- MODIFY SETTING mode
  pub modify_reads : Exactly (kinds.keyword "MODIFY") none false n rules.modify parsers.modify_at
  unfolding parsers.modify_at
  modify_reads =
      seq (keyword_reads n "MODIFY" refl) (λ _. seq (keyword_reads n "SETTING" refl)
      (λ _. end (mode_reads n) actions.Mode) refl) refl

  -- OPTIMIZE TABLE name FINAL
  pub optimize_reads : Exactly (kinds.keyword "OPTIMIZE") none false n rules.optimize parsers.optimize_at
  unfolding parsers.optimize_at
  optimize_reads =
      seq (keyword_reads n "OPTIMIZE" refl)
      (λ _. seq (keyword_reads n "TABLE" refl)
      (λ _. seq (name_reads n) (λ table. end (keyword_reads n "FINAL" refl) (λ _. statements.Optimize table))
      refl)
      refl)
      refl

  -- SET sets
  pub set_session_reads : Exactly (kinds.keyword "SET") (kinds.sign Comma) false n rules.set_session
      parsers.set_session_at
  unfolding parsers.set_session_at
  set_session_reads = seq (keyword_reads n "SET" refl) (λ _. end (set_list_reads n) statements.Set) refl

  -- MERGE name, MUTATE name
  pub table_behind_reads : (capitals : String) → is_capital_keyword (codes capitals) ≡ true
      → Exactly (kinds.keyword capitals) none false n (rules.table_behind (codes capitals))
      (parsers.table_behind_at (codes capitals))
  unfolding parsers.table_behind_at
  table_behind_reads capitals known = seq (keyword_reads n capitals known) (λ _. name_reads n) refl

-- what begins an action and a sentence, and what may stand behind a condition and settings, and behind a
-- sentence
abbrev pub action_first : Kinds
action_first =
    kinds.keyword "ADD" ∪ kinds.keyword "DROP" ∪ kinds.keyword "MATERIALIZE" ∪ kinds.keyword "CLEAR"
    ∪ kinds.keyword "DELETE" ∪ kinds.keyword "UPDATE" ∪ kinds.keyword "MODIFY"

abbrev pub sentence_first : Kinds
sentence_first =
    kinds.keyword "CREATE" ∪ kinds.keyword "INSERT" ∪ kinds.keyword "SELECT" ∪ kinds.keyword "EXPLAIN"
    ∪ kinds.keyword "DELETE" ∪ kinds.keyword "ALTER" ∪ kinds.keyword "OPTIMIZE" ∪ kinds.keyword "SET"
    ∪ kinds.keyword "MERGE" ∪ kinds.keyword "MUTATE"

abbrev pub after_value : Kinds
after_value = kinds.keyword "SETTINGS" ∪ kinds.sign Comma ∪ value_more

abbrev pub sentence_more : Kinds
sentence_more = kinds.sign Semicolon ∪ select_more

module _ {n : ℕ} {G W : Grammar Tree} (p : Parser Tree) (v : Reads value_first value_more false n G W p)
    (lone : Lone G) where
  -- delete
  pub delete_reads : Reads (kinds.keyword "DELETE") after_value false n (rules.delete G) (rules.delete W)
      (parsers.delete_at p)
  unfolding parsers.delete_at
  delete_reads =
      reads_as
      (seq (keyword_reads n "DELETE" refl)
      (λ _. seq (keyword_reads n "FROM" refl)
      (λ _. seq (name_reads n)
      (λ table. seq_opt (where_value_reads p v lone)
      (λ filter. end_opt (own_sets_reads n) (λ own. statements.Delete table filter own))
      refl) refl) refl) refl)
      refl refl

  -- [IF NOT EXISTS] proj
  pub maybe_not_there_reads : Reads kinds.list_name none false n
      (rules.maybe_not_there G) (rules.maybe_not_there W) (parsers.maybe_not_there_at p)
  unfolding parsers.maybe_not_there_at
  maybe_not_there_reads =
      reads_as
      (or_reads
      (seq (keyword_reads n "IF" refl)
      (λ _. seq (keyword_reads n "NOT" refl)
      (λ _. seq (keyword_reads n "EXISTS" refl)
      (λ _. end (seq (list_name_reads n) (λ name. proj_behind_reads p v lone name) refl)
      (actions.Add true))
      refl) refl) refl)
      (end (seq (list_name_but_if_reads n) (λ name. proj_behind_reads p v lone name) refl)
      (actions.Add false))
      refl _ (keyword_kind "IF" refl))
      refl refl

  -- ADD PROJECTION [IF NOT EXISTS] proj
  pub add_reads : Reads (kinds.keyword "ADD") none false n (rules.add G) (rules.add W) (parsers.add_at p)
  unfolding parsers.add_at
  add_reads = seq (keyword_reads n "ADD" refl) (λ _. seq (keyword_reads n "PROJECTION" refl)
      (λ _. maybe_not_there_reads) refl) refl

  -- name "=" value
  pub assign_reads : Reads kinds.name value_more false n (rules.assign G) (rules.assign W)
      (parsers.assign_at p)
  unfolding parsers.assign_at
  assign_reads =
      seq (name_reads n)
      (λ column. seq (sign_reads n Eq) (λ _. end v (λ to. record { column = column; value = to })) refl) refl

  -- name "=" value {"," name "=" value}
  pub assigns_reads : Reads kinds.name (kinds.sign Comma ∪ value_more) false n (listed (rules.assign G))
      (listed (rules.assign W)) (parsers.assigns_at p)
  unfolding parsers.assigns_at
  assigns_reads = listed_reads assign_reads refl refl

  -- UPDATE .. WHERE value
  pub update_reads : Reads (kinds.keyword "UPDATE") value_more false n (rules.update G) (rules.update W)
      (parsers.update_at p)
  unfolding parsers.update_at
  update_reads =
      seq (keyword_reads n "UPDATE" refl)
      (λ _. seq assigns_reads
      (λ assigns. end (where_value_reads p v lone) (λ filter. actions.Update assigns filter)) refl)
      refl

  -- DELETE WHERE value
  pub delete_rows_reads : Reads (kinds.keyword "DELETE") value_more false n (rules.delete_rows G)
      (rules.delete_rows W)
      (parsers.delete_rows_at p)
  unfolding parsers.delete_rows_at
  delete_rows_reads = seq (keyword_reads n "DELETE" refl)
      (λ _. end (where_value_reads p v lone) actions.Delete) refl

  -- action
  pub action_reads : Reads action_first value_more false n (rules.action G)
      (rules.action W) (parsers.action_at p)
  unfolding parsers.action_at
  action_reads =
      reads_as
      (or_reads add_reads
      (or_reads (end (projection_there_reads n "DROP" refl) (λ named. actions.Drop named.0 named.1))
      (or_reads (end (projection_there_reads n "MATERIALIZE" refl)
      (λ named. actions.Materialize named.0 named.1))
      (or_reads (end (projection_there_reads n "CLEAR" refl) (λ named. actions.Clear named.0 named.1))
      (or_reads delete_rows_reads
      (or_reads update_reads (modify_reads n) refl _ (keyword_kind "UPDATE" refl)) refl _
      (keyword_kind "DELETE" refl))
      refl _ (keyword_kind "CLEAR" refl)) refl _ (keyword_kind "MATERIALIZE" refl)) refl _
      (keyword_kind "DROP" refl)) refl _ (keyword_kind "ADD" refl))
      refl refl

  -- alter
  pub alter_reads : Reads (kinds.keyword "ALTER") after_value false n (rules.alter G) (rules.alter W)
      (parsers.alter_at p)
  unfolding parsers.alter_at
  alter_reads =
      reads_as
      (seq (keyword_reads n "ALTER" refl)
      (λ _. seq (keyword_reads n "TABLE" refl)
      (λ _. seq (name_reads n)
      (λ table. seq_opt action_reads
      (λ does. end_opt (own_sets_reads n) (λ own. statements.Alter table does own)) refl)
      refl) refl) refl)
      refl refl

  -- statement
  pub statement_reads : Reads sentence_first select_more false n
      (rules.statement G) (rules.statement W) (parsers.statement_at p)
  unfolding parsers.statement_at
  statement_reads =
      reads_as
      (or_reads (create_reads p v lone)
      (or_reads (insert_reads n)
      (or_reads (end (select_reads p v lone) statements.Select)
      (or_reads (end (explain_reads p v lone) statements.Explain)
      (or_reads delete_reads
      (or_reads alter_reads
      (or_reads (optimize_reads n)
      (or_reads (set_session_reads n)
      (or_reads (end (table_behind_reads n "MERGE" refl) statements.Merge)
      (end (table_behind_reads n "MUTATE" refl) statements.Mutate) refl _ (keyword_kind "MERGE" refl))
      refl _ (keyword_kind "SET" refl)) refl _ (keyword_kind "OPTIMIZE" refl)) refl _
      (keyword_kind "ALTER" refl)) refl _ (keyword_kind "DELETE" refl))
      refl _ (keyword_kind "EXPLAIN" refl)) refl _ (keyword_kind "SELECT" refl)) refl _
      (keyword_kind "INSERT" refl)) refl _ (keyword_kind "CREATE" refl))
      refl refl

  -- sentence
  pub sentence_reads : Reads sentence_first sentence_more false n
      (rules.sentence G) (rules.sentence W) (parsers.sentence_at p)
  unfolding parsers.sentence_at
  sentence_reads =
      reads_as (seq_opt statement_reads
      (λ one. end_opt (optional_reads (sign_reads n Semicolon) _ (sign_kind Semicolon)) (λ _. one)) refl)
      refl refl
