-- How definitions of tables and projections are read. Of public contracts those of `pj_phrase` and
-- `pj_sentence` alone cite it.
use Rattle.std.specs.Prelude.{ℕ, List, [], ◌∷◌, Option, codes}
use Rattle.pj_value.specs.declared.value.Kind.{Kind}
use Rattle.pj_value.specs.declared.value.Kind.TheVariants as kinds
use Rattle.pj_lex.specs.declared.token.Symbol.TheVariants.{Left, Right, Comma, Eq}
use Rattle.pj_grammar.specs.declared.types.Tree.{Tree}
use Rattle.pj_grammar.specs.declared.types.TreeColumn.{TreeColumn}
use Rattle.pj_grammar.specs.declared.types.TreeProj.{TreeProj}
use Rattle.pj_grammar.specs.declared.types.TableWord.{TableWord}
use Rattle.pj_grammar.specs.declared.types.Statement.{Statement}
use Rattle.pj_grammar.specs.declared.types.Statement.TheVariants as statements
use Rattle.pj_grammar.specs.Lexemes.{is_symbol, is_keyword, is_exactly}
use Rattle.pj_grammar.specs.grammar.Words.{or_empty}
use Rattle.pj_grammar.specs.grammar.Tables.{Member, defined, projected, columns_in, projections_in}
use Rattle.pj_grammar.specs.parsing.Parser.{Parser, ◌>>=◌, nothing_at, or_at, many_at, optional_at}
use Rattle.pj_grammar.specs.parsing.Words.{keyword_at, exactly_at, sign_at, name_at, list_name_at, means_at}
use Rattle.pj_grammar.specs.parsing.Words.{behind_at, listed_at, in_parens_at}
use Rattle.pj_grammar.specs.parsing.Settings.{table_set_at}
use Rattle.pj_grammar.specs.parsing.Selects.{item_list_at, maybe_groups_at}

-- name {"," name}
unfoldable pub names_at : Parser (List (List ℕ))
names_at = listed_at name_at

-- "(" name {"," name} ")"
unfoldable pub names_in_parens_at : Parser (List (List ℕ))
names_in_parens_at = in_parens_at names_at

-- name {"," name} | "(" name {"," name} ")"
unfoldable pub order_names_at : Parser (List (List ℕ))
order_names_at = or_at (is_symbol Left) names_in_parens_at names_at

-- ORDER BY (name {"," name} | "(" name {"," name} ")")
unfoldable pub projection_order_at : Parser (List (List ℕ))
projection_order_at = do
  _ ← keyword_at (codes "ORDER")
  _ ← keyword_at (codes "BY")
  order_names_at

-- [ORDER BY ..]
unfoldable pub maybe_projection_order_at : Parser (Option (List (List ℕ)))
maybe_projection_order_at = optional_at (is_keyword (codes "ORDER")) projection_order_at

-- a projection's definition behind its name
unfoldable pub proj_behind_at : Parser Tree → List ℕ → Parser TreeProj
proj_behind_at value name = do
  _ ← sign_at Left
  _ ← keyword_at (codes "SELECT")
  list ← item_list_at value
  groups ← maybe_groups_at value
  order ← maybe_projection_order_at
  _ ← sign_at Right
  nothing_at (record { name = name; items = list; groups = groups; order = order })

-- proj, with this parser of its name
abbrev pub proj_at : Parser (List ℕ) → Parser Tree → Parser TreeProj
proj_at its_name value = its_name >>= λ name. proj_behind_at value name

-- UInt64 | String
unfoldable pub kind_at : Parser Kind
kind_at =
    or_at (is_exactly (codes "UInt64")) (means_at (exactly_at (codes "UInt64")) kinds.Num)
    (means_at (exactly_at (codes "String")) kinds.Text)

-- column
unfoldable pub column_at : Parser TreeColumn
column_at = do
  bytes ← name_at
  of ← kind_at
  nothing_at (record { name = bytes; kind = of })

-- column | PROJECTION proj
unfoldable pub member_at : Parser Tree → Parser Member
member_at value =
    or_at (is_keyword (codes "PROJECTION"))
    (behind_at (keyword_at (codes "PROJECTION")) (proj_at list_name_at value) >>= λ projection. nothing_at
    (projected projection))
    (column_at >>= λ one. nothing_at (defined one))

-- key
unfoldable pub key_at : Parser (List (List ℕ))
key_at = or_at (is_symbol Left) names_in_parens_at (name_at >>= λ one. nothing_at (one ∷ []))

-- ENGINE "=" MergeTree ["(" ")"]
unfoldable pub engine_at : Parser (Unit {0})
engine_at = do
  _ ← keyword_at (codes "ENGINE")
  _ ← sign_at Eq
  _ ← exactly_at (codes "MergeTree")
  _ ← optional_at (is_symbol Left) (behind_at (sign_at Left) (sign_at Right))
  nothing_at tt

-- "(" column {"," (column | PROJECTION proj)} ")"
unfoldable pub members_at : Parser Tree → Parser (TreeColumn × List Member)
members_at value = do
  _ ← sign_at Left
  first ← column_at
  more ← many_at (is_symbol Comma) (behind_at (sign_at Comma) (member_at value))
  _ ← sign_at Right
  nothing_at (first, more)

-- columns and projections
abbrev pub Members : Type 0
Members = List TreeColumn × List TreeProj

-- the columns, of which one stands first, and the projections
abbrev pub parted : TreeColumn → List Member → Members
parted first more = (first ∷ columns_in more, projections_in more)

-- the members behind a first column, in two lists
abbrev pub more_members_at : Parser Tree → TreeColumn → Parser Members
more_members_at value first = do
  more ← many_at (is_symbol Comma) (behind_at (sign_at Comma) (member_at value))
  nothing_at (parted first more)

-- the members, in two lists
abbrev pub parted_members_at : Parser Tree → Parser Members
parted_members_at value = do
  list ← members_at value
  nothing_at (parted list.0 list.1)

-- tset {"," tset}
unfoldable pub table_set_list_at : Parser (List TableWord)
table_set_list_at = listed_at table_set_at

-- [SETTINGS tset {"," tset}]
unfoldable pub table_sets_at : Parser (List TableWord)
table_sets_at = do
  list ← optional_at (is_keyword (codes "SETTINGS"))
      (behind_at (keyword_at (codes "SETTINGS")) table_set_list_at)
  nothing_at (or_empty list)

-- ORDER BY key
unfoldable pub table_key_at : Parser (List (List ℕ))
table_key_at = do
  _ ← keyword_at (codes "ORDER")
  _ ← keyword_at (codes "BY")
  key_at

-- create
unfoldable pub create_at : Parser Tree → Parser Statement
create_at value = do
  _ ← keyword_at (codes "CREATE")
  _ ← keyword_at (codes "TABLE")
  name ← list_name_at
  list ← members_at value
  _ ← engine_at
  by ← table_key_at
  settings ← table_sets_at
  nothing_at (statements.Create name (list.0 ∷ columns_in list.1) (projections_in list.1) by settings)
