-- No line feed in the names that a refusal of a statement may give: they are words of the statement's
-- lexemes.
use Rattle.std.proofs.Common.{List, [], ◌∷◌, ◌++◌}
use Rattle.std.specs.Prelude.{Option, Some, None, IfSome}
use Rattle.std.specs.Option.{is_some}
use Rattle.std.specs.List.{AllByRecursion, flat_map}
use Rattle.pj_grammar.specs.declared.types.Tree.{Tree}
use Rattle.pj_grammar.specs.declared.types.TreeItem.{TreeItem}
use Rattle.pj_grammar.specs.declared.types.TreeItem.TheVariants as tree_items
use Rattle.pj_grammar.specs.declared.types.Listed.{Listed}
use Rattle.pj_grammar.specs.declared.types.TreeOrder.{TreeOrder}
use Rattle.pj_grammar.specs.declared.types.TreeSelect.{TreeSelect}
use Rattle.pj_grammar.specs.declared.types.Statement.{Statement}
use Rattle.pj_grammar.specs.declared.types.Statement.TheVariants as statements
use Rattle.pj_grammar.specs.Lexemes.{Lexeme}
use Rattle.pj_grammar.specs.grammar.Ebnf.{Grammar}
use Rattle.pj_grammar.specs.grammar.Words.{or_empty}
use Rattle.pj_grammar.specs.grammar.Values.{value_to}
use Rattle.pj_grammar.specs.grammar.Selects.{call_or_value, item, item_list, order_key, select}
use Rattle.pj_grammar.specs.grammar.Tables.{column, Member, defined, projected, columns_in, members, key}
use Rattle.pj_grammar.specs.grammar.Tables.{create}
use Rattle.pj_grammar.specs.grammar.Statements.{target, insert, statement, sentence, IsStatement}
use Rattle.pj_bind.specs.Names.{Name, names_in}
use Rattle.pj_bind.specs.Filling.{listed_names}
use Rattle.pj_bind.specs.Queries.{listed, item_named, value_named, names_of_item, names_of_filter}
use Rattle.pj_bind.specs.Queries.{names_of_group, names_of_key, column_names_of}
use Rattle.pj_bind.specs.Binding.{new_names}
use Rattle.pj_legal.specs.Laws.{IsOneLine}
use Rattle.pj_legal.proofs.histories.ListLemmas.{All-append, All-unless, All-flat_map, All-map}
use Rattle.pj_legal.proofs.plain.PlainRules.{IsPlainLexeme, Gives, give, then, skip, either, several, maybe}
use Rattle.pj_legal.proofs.plain.PlainRules.{list}
use Rattle.pj_legal.proofs.plain.PlainRules.{enclosed, a_word}
use Rattle.pj_legal.proofs.plain.PlainTrees.{ArePlain, IsPlainTree, gives-value_to}

-- the names that a refusal of the statement may give
abbrev pub names_of : Statement → List Name
names_of (statements.Create table columns projections key settings) = table ∷ (new_names columns ++ key)
names_of (statements.Insert table columns rows) = table ∷ listed_names columns
names_of (statements.Select query) = query.table ∷ column_names_of query
names_of (statements.Explain query) = []
names_of (statements.Delete table filter sets) = []
names_of (statements.Alter table action sets) = []
names_of (statements.Optimize table) = []
names_of (statements.Set sets) = []
names_of (statements.Merge table) = []
names_of (statements.Mutate table) = []

-- none has a line feed
abbrev pub IsPlainStatement : Statement → Type 0
IsPlainStatement s = ArePlain (names_of s)

-- what holds of the elements of a list holds of them where it may be left out
All-or_empty : {X : Type 0} (P : X → Type 0) (xs : Option (List X)) → IfSome xs (AllByRecursion P)
    → AllByRecursion P (or_empty xs)
All-or_empty P None all = tt
All-or_empty P (Some xs) all = all

-- ---- SELECT

abbrev IsPlainItem : TreeItem → Type 0
IsPlainItem i = ArePlain (names_of_item i)

plain-key : (items : List Listed) (i : TreeItem) → IsPlainItem i → ArePlain (names_of_key items i)
plain-key items (tree_items.Value tree) is = All-unless IsOneLine (is_some (item_named items tree))
    (names_in tree) is
plain-key items (tree_items.Call kind argument) is = is

plain-filter : (filter : Option Tree) → IfSome filter IsPlainTree → ArePlain (names_of_filter filter)
plain-filter None is = tt
plain-filter (Some tree) is = is

plain-items : (items : Option (List Listed)) → IfSome items (AllByRecursion (λ i. IsPlainItem i.item))
    → ArePlain (flat_map (λ i. names_of_item i.item) (listed items))
plain-items None all = tt
plain-items (Some items) all = All-flat_map IsOneLine (λ (i : Listed). names_of_item i.item) items all

-- the names of a SELECT are those of its parts
plain-columns : (query : TreeSelect) → IfSome query.items (AllByRecursion (λ i. IsPlainItem i.item))
    → IfSome query.filter IsPlainTree → AllByRecursion IsPlainTree query.groups
    → AllByRecursion (λ k. IsPlainItem k.item) query.order → ArePlain (column_names_of query)
plain-columns query in_items in_filter in_groups in_order =
    All-append IsOneLine _ _ (plain-items query.items in_items)
    (All-append IsOneLine _ _ (plain-filter query.filter in_filter)
    (All-append IsOneLine _ _
    (All-flat_map IsOneLine (names_of_group its) query.groups
    (All-map IsPlainTree (λ t. ArePlain (names_of_group its t)) query.groups
    (λ t is. All-unless IsOneLine (is_some (value_named its t)) (names_in t) is) in_groups))
    (All-flat_map IsOneLine (λ (k : TreeOrder). names_of_key its k.item) query.order
    (All-map (λ (k : TreeOrder). IsPlainItem k.item) (λ k. ArePlain (names_of_key its k.item)) query.order
    (λ k is. plain-key its k.item is) in_order))))
  where
    its : List Listed
    its = listed query.items

module _ (value : Grammar Tree) (gives : Gives IsPlainTree value) where
  -- call | value
  gives-call_or_value : Gives IsPlainItem (call_or_value value)
  gives-call_or_value =
      either (either (skip (λ _. skip (λ _. skip (λ _. skip (λ _. give tt)))))
      (skip (λ kind. then (enclosed gives) (λ argument is. give is))))
      (then gives (λ tree is. give is))

  -- (call | value) [AS name]
  gives-item : Gives (λ i. IsPlainItem i.item) (item value)
  gives-item = then gives-call_or_value (λ i is. skip (λ alias. give is))

  -- "*" | item {"," item}
  gives-items : Gives (λ o. IfSome o (AllByRecursion (λ i. IsPlainItem i.item))) (item_list value)
  gives-items = either (skip (λ _. give tt)) (then (list gives-item) (λ items all. give all))

  -- (call | value) [ASC | DESC]
  gives-order_key : Gives (λ k. IsPlainItem k.item) (order_key value)
  gives-order_key = then gives-call_or_value (λ i is. skip (λ descending. give is))

  -- SELECT items FROM name [WHERE value] [GROUP BY ..] [ORDER BY ..] ..
  gives-select : Gives (λ query. ArePlain (query.table ∷ column_names_of query)) (select value)
  gives-select =
      skip (λ _. then gives-items (λ items in_items.
      skip (λ _. then a_word (λ table named.
      then (maybe (skip (λ _. gives))) (λ filter in_filter.
      then (maybe (skip (λ _. skip (λ _. list gives)))) (λ groups in_groups.
      then (maybe (skip (λ _. skip (λ _. list gives-order_key)))) (λ order in_order.
      skip (λ limit. skip (λ own. give (
        named,
        plain-columns (record {
          items = items;
          table = table;
          filter = filter;
          groups = or_empty groups;
          order = or_empty order;
          limit = limit;
          sets = own;
        }) in_items in_filter (All-or_empty IsPlainTree groups in_groups)
            (All-or_empty (λ (k : TreeOrder). IsPlainItem k.item) order in_order),
      ))))))))))

-- ---- CREATE TABLE

abbrev IsPlainMember : Member → Type 0
IsPlainMember (defined one) = IsOneLine one.name
IsPlainMember (projected one) = Unit {0}

plain-new_names : (more : List Member) → AllByRecursion IsPlainMember more → ArePlain (new_names
    (columns_in more))
plain-new_names [] all = tt
plain-new_names (defined one ∷ more) all = (all.0, plain-new_names more all.1)
plain-new_names (projected one ∷ more) all = plain-new_names more all.1

-- name (UInt64 | String)
gives-column : Gives (λ c. IsOneLine c.name) column
gives-column = then a_word (λ name is. skip (λ kind. give is))

-- "(" column {"," (column | PROJECTION proj)} ")"
gives-members : (value : Grammar Tree)
    → Gives (λ list. ArePlain (new_names (list.0 ∷ columns_in list.1))) (members value)
gives-members value =
    skip (λ _. then gives-column (λ first is.
    then (several {P = IsPlainMember} (skip (λ _. either (skip (λ projection. give tt)) (then gives-column
    (λ one it. give it)))))
    (λ more all. skip (λ _. give (is, plain-new_names more all)))))

-- "(" name {"," name} ")" | name
gives-key : Gives ArePlain key
gives-key = either (enclosed (list a_word)) (then a_word (λ name is. give (is, tt)))

gives-create : (value : Grammar Tree) → Gives IsPlainStatement (create value)
gives-create value =
    skip (λ _. skip (λ _. then a_word (λ table named. then (gives-members value) (λ columns all.
    skip (λ _. then (skip (λ _. skip (λ _. gives-key))) (λ key keys. skip (λ settings.
    give (named, All-append IsOneLine (new_names (columns.0 ∷ columns_in columns.1)) key all keys))))))))

-- ---- INSERT

plain-listed_names : (columns : Option (List Name)) → IfSome columns ArePlain → ArePlain
    (listed_names columns)
plain-listed_names None all = tt
plain-listed_names (Some names) all = all

-- name ["(" name {"," name} ")"]
gives-target : Gives (λ into. ArePlain (into.0 ∷ listed_names into.1)) target
gives-target =
    either (then a_word (λ table is. give (is, tt)))
    (then a_word (λ table is. then (maybe (enclosed (list a_word)))
    (λ columns all. give (is, plain-listed_names columns all))))

gives-insert : Gives IsPlainStatement insert
gives-insert = skip (λ _. skip (λ _. then gives-target (λ into is. skip (λ _. skip (λ rows. give is)))))

-- ---- any statement

gives-statement : (value : Grammar Tree) → Gives IsPlainTree value → Gives IsPlainStatement (statement value)
gives-statement value gives =
    either (gives-create value) (either gives-insert
    (either (then (gives-select value gives) (λ query is. give is))
    (either (skip (λ query. give tt))
    (either (skip (λ _. skip (λ _. skip (λ _. skip (λ _. skip (λ _. give tt))))))
    (either (skip (λ _. skip (λ _. skip (λ _. skip (λ _. skip (λ _. give tt))))))
    (either (skip (λ _. skip (λ _. skip (λ _. skip (λ _. give tt)))))
    (either (skip (λ _. skip (λ _. give tt)))
    (either (skip (λ _. give tt)) (skip (λ _. give tt))))))))))

-- the names of a statement have no line feed where the words of its lexemes have none
pub plain-sentence : (ts : List Lexeme) (s : Statement) → AllByRecursion IsPlainLexeme ts → IsStatement ts s
    → IsPlainStatement s
plain-sentence ts s plain (depth, read) = gives.of ts s plain read
  where
    gives : Gives IsPlainStatement (sentence (value_to depth))
    gives = then (gives-statement (value_to depth) (gives-value_to depth)) (λ one is. skip (λ _. give is))
