-- Definitions of tables and projections (docs/GRAMMAR.md, "Statements").
use Rattle.std.specs.Prelude.{ℕ, List, [], ◌∷◌, codes}
use Rattle.pj_value.specs.declared.value.Kind.TheVariants as kinds
use Rattle.pj_value.specs.declared.value.Kind.{Kind}
use Rattle.pj_lex.specs.declared.token.Symbol.TheVariants.{Left, Right, Comma, Eq}
use Rattle.pj_grammar.specs.declared.types.Tree.{Tree}
use Rattle.pj_grammar.specs.declared.types.TreeColumn.{TreeColumn}
use Rattle.pj_grammar.specs.declared.types.TreeProj.{TreeProj}
use Rattle.pj_grammar.specs.declared.types.TableWord.{TableWord}
use Rattle.pj_grammar.specs.declared.types.Statement.{Statement}
use Rattle.pj_grammar.specs.declared.types.Statement.TheVariants as statements
use Rattle.pj_grammar.specs.grammar.Ebnf.{Grammar, Nothing, ◌>>=◌, ◌or◌, many, optional}
use Rattle.pj_grammar.specs.grammar.Words.{keyword, exactly, sign, name, list_name, means, behind, listed}
use Rattle.pj_grammar.specs.grammar.Words.{in_parens, or_empty}
use Rattle.pj_grammar.specs.grammar.Settings.{table_set}
use Rattle.pj_grammar.specs.grammar.Selects.{item_list, group_by}

-- "(" name {"," name} ")" | name {"," name}
abbrev pub order_names : Grammar (List (List ℕ))
order_names = in_parens (listed name) or listed name

-- ORDER BY (name {"," name} | "(" name {"," name} ")")
abbrev pub projection_order : Grammar (List (List ℕ))
projection_order = do
  _ ← keyword (codes "ORDER")
  _ ← keyword (codes "BY")
  order_names

-- proj = name "(" SELECT items [GROUP BY value {"," value}] [ORDER BY (..)] ")", with this rule of its name
abbrev pub proj : Grammar (List ℕ) → Grammar Tree → Grammar TreeProj
proj its_name value = do
  name ← its_name
  _ ← sign Left
  _ ← keyword (codes "SELECT")
  list ← item_list value
  groups ← optional (group_by value)
  order ← optional projection_order
  _ ← sign Right
  Nothing (record { name = name; items = list; groups = groups; order = order })

-- UInt64 | String
abbrev pub kind : Grammar Kind
kind = means (exactly (codes "UInt64")) kinds.Num or means (exactly (codes "String")) kinds.Text

-- column = name (UInt64 | String)
abbrev pub column : Grammar TreeColumn
column = do
  bytes ← name
  of ← kind
  Nothing (record { name = bytes; kind = of })

-- what CREATE TABLE lists
pub data Member : Type 0 where
  defined : TreeColumn → Member
  projected : TreeProj → Member

-- PROJECTION proj | column
abbrev pub member : Grammar Tree → Grammar Member
member value =
    (do
      projection ← behind (keyword (codes "PROJECTION")) (proj list_name value)
      Nothing (projected projection))
    or (do
      one ← column
      Nothing (defined one))

-- the columns among them
abbrev pub columns_in : List Member → List TreeColumn
columns_in [] = []
columns_in (defined one ∷ more) = one ∷ columns_in more
columns_in (projected one ∷ more) = columns_in more

-- the projections among them
abbrev pub projections_in : List Member → List TreeProj
projections_in [] = []
projections_in (defined one ∷ more) = projections_in more
projections_in (projected one ∷ more) = one ∷ projections_in more

-- key = "(" name {"," name} ")" | name
abbrev pub key : Grammar (List (List ℕ))
key =
    in_parens (listed name)
    or (do
      one ← name
      Nothing (one ∷ []))

-- ENGINE "=" MergeTree ["(" ")"]
abbrev pub engine : Grammar (Unit {0})
engine = do
  _ ← keyword (codes "ENGINE")
  _ ← sign Eq
  _ ← exactly (codes "MergeTree")
  _ ← optional (behind (sign Left) (sign Right))
  Nothing tt

-- "(" column {"," (column | PROJECTION proj)} ")"
abbrev pub members : Grammar Tree → Grammar (TreeColumn × List Member)
members value = do
  _ ← sign Left
  first ← column
  more ← many (behind (sign Comma) (member value))
  _ ← sign Right
  Nothing (first, more)

-- [SETTINGS tset {"," tset}]
abbrev pub table_sets : Grammar (List TableWord)
table_sets = do
  list ← optional (behind (keyword (codes "SETTINGS")) (listed table_set))
  Nothing (or_empty list)

-- ORDER BY key
abbrev pub table_key : Grammar (List (List ℕ))
table_key = do
  _ ← keyword (codes "ORDER")
  _ ← keyword (codes "BY")
  key

-- create = CREATE TABLE name "(" column {"," (column | PROJECTION proj)} ")" ENGINE "=" MergeTree ["(" ")"]
-- ORDER BY key [SETTINGS tset {"," tset}]
abbrev pub create : Grammar Tree → Grammar Statement
create value = do
  _ ← keyword (codes "CREATE")
  _ ← keyword (codes "TABLE")
  name ← list_name
  list ← members value
  _ ← engine
  by ← table_key
  settings ← table_sets
  Nothing (statements.Create name (list.0 ∷ columns_in list.1) (projections_in list.1) by settings)
