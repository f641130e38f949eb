-- The query of a SELECT: its names are columns or aliases (docs/GRAMMAR.md, "Binding").
use Rattle.std.specs.Prelude.{List, [], ◌∷◌, ◌++◌, length, map, Bool, true, false, ◌&&◌, Option, Some, None}
use Rattle.std.specs.Prelude.{if◌then◌else◌}
use Rattle.std.specs.Option.{option_map, option_and_then, is_some}
use Rattle.std.specs.List.{find, flat_map, range_with_len}
use Rattle.std.specs.Str.{bytes_eq}
use Rattle.pj_value.specs.declared.value.AggKind.{AggKind}
use Rattle.pj_grammar.specs.declared.types.Tree.{Tree}
use Rattle.pj_grammar.specs.declared.types.Tree.TheOpen.{Tree-F}
use Rattle.pj_grammar.specs.declared.types.Tree.TheFolds.{fold-Tree}
use Rattle.pj_grammar.specs.declared.types.TreeItem.{TreeItem}
use Rattle.pj_grammar.specs.declared.types.TreeItem.TheVariants as tree_items
use Rattle.pj_grammar.specs.declared.types.Listed.{Listed}
use Rattle.pj_grammar.specs.declared.types.TreeOrder.{TreeOrder}
use Rattle.pj_grammar.specs.declared.types.TreeSelect.{TreeSelect}
use Rattle.pj_expr.specs.declared.expr.Expr.{Expr}
use Rattle.pj_expr.specs.declared.expr.Expr.TheVariants as exprs
use Rattle.pj_expr.specs.declared.cond.Cond.{Cond}
use Rattle.pj_expr.specs.declared.cond.Cond.TheVariants as conds
use Rattle.pj_expr.specs.declared.query.AggCall.{AggCall}
use Rattle.pj_expr.specs.declared.query.Item.{Item}
use Rattle.pj_expr.specs.declared.query.Item.TheVariants.{Plain, Agg}
use Rattle.pj_expr.specs.declared.query.OrderKey.{OrderKey}
use Rattle.pj_expr.specs.declared.query.Query.{Query}
use Rattle.pj_expr.specs.declared.table.ColumnDef.{ColumnDef}
use Rattle.pj_bind.specs.Names.{Name, names_in}
use Rattle.pj_bind.specs.Meanings.{meaning, value_in, condition_in}

-- ---- aliases

-- the items that are listed; none for `*`
abbrev pub listed : Option (List Listed) → List Listed
listed None = []
listed (Some items) = items

-- whether an alias is this name
abbrev pub is_alias : Name → Option Name → Bool
is_alias name None = false
is_alias name (Some alias) = bytes_eq alias name

-- whether an item has this alias
abbrev pub has_alias : Name → Listed → Bool
has_alias name item = is_alias name item.alias

-- whether an item is no call
abbrev pub is_value : TreeItem → Bool
is_value (tree_items.Value tree) = true
is_value (tree_items.Call kind argument) = false

-- the name that a tree is alone, whatever its parts are
abbrev pub lone_step : Tree-F (Option Name) → Option Name
lone_step (Tree-F.Num n) = None
lone_step (Tree-F.Text t) = None
lone_step (Tree-F.Name name) = Some name
lone_step (Tree-F.IntDiv a d) = None
lone_step (Tree-F.Mod a d) = None
lone_step (Tree-F.Pair op a b) = None
lone_step (Tree-F.Not a) = None

-- the name that a tree is alone
abbrev pub lone_name : Tree → Option Name
lone_name tree = fold-Tree (Option Name) lone_step tree

-- the first item that a key of ORDER BY names by its alias
abbrev pub item_named : List Listed → Tree → Option Listed
item_named items tree =
    option_and_then (λ name. find (has_alias name) items) (lone_name tree)

-- the first item, among those that are no calls, that a value of GROUP BY names by its alias
abbrev pub value_named : List Listed → Tree → Option Listed
value_named items tree =
    option_and_then (λ name. find (λ i. has_alias name i && is_value i.item) items) (lone_name tree)

-- ---- names

-- the names in an item
abbrev pub names_of_item : TreeItem → List Name
names_of_item (tree_items.Value tree) = names_in tree
names_of_item (tree_items.Call kind None) = []
names_of_item (tree_items.Call kind (Some tree)) = names_in tree

-- the names in a filter
abbrev pub names_of_filter : Option Tree → List Name
names_of_filter None = []
names_of_filter (Some tree) = names_in tree

-- the names in a value of GROUP BY that must be columns: none where it is an alias
abbrev pub names_of_group : List Listed → Tree → List Name
names_of_group items tree = if is_some (value_named items tree) then [] else names_in tree

-- the names in a key of ORDER BY that must be columns: none where it is an alias
abbrev pub names_of_key : List Listed → TreeItem → List Name
names_of_key items (tree_items.Value tree) = if is_some (item_named items tree) then [] else names_in tree
names_of_key items (tree_items.Call kind argument) = names_of_item (tree_items.Call kind argument)

-- the names in a SELECT that must be columns, in the order of the text
abbrev pub column_names_of : TreeSelect → List Name
column_names_of select =
    flat_map (λ i. names_of_item i.item) (listed select.items)
    ++ (names_of_filter select.filter
    ++ (flat_map (names_of_group (listed select.items)) select.groups
    ++ flat_map (λ key. names_of_key (listed select.items) key.item) select.order))

-- ---- the query

-- all of them, where each is there
abbrev pub all_of : {X : Type 0} → List (Option X) → Option (List X)
all_of [] = Some []
all_of (None ∷ more) = None
all_of (Some x ∷ more) = option_map (λ xs. x ∷ xs) (all_of more)

-- the value of a tree
abbrev pub value_of_tree : List ColumnDef → Tree → Option Expr
value_of_tree columns tree = value_in (meaning columns tree)

-- the argument of a call
abbrev pub argument_of : List ColumnDef → Option Tree → Option (Option Expr)
argument_of columns None = Some None
argument_of columns (Some tree) = option_map (λ e. Some e) (value_of_tree columns tree)

-- a call
abbrev pub call_of : List ColumnDef → AggKind → Option Tree → Option AggCall
call_of columns kind argument =
    option_map (λ a. record { kind = kind; argument = a }) (argument_of columns argument)

-- an item
abbrev pub item_of : List ColumnDef → TreeItem → Option Item
item_of columns (tree_items.Value tree) = option_map (λ e. Plain e) (value_of_tree columns tree)
item_of columns (tree_items.Call kind argument) = option_map (λ c. Agg c) (call_of columns kind argument)

-- each column as an item
abbrev pub every_column : List ColumnDef → List Item
every_column columns = map (λ at. Plain (exprs.Column at)) (range_with_len 0 (length columns))

-- the items; `*` stands for all columns
abbrev pub items_of : List ColumnDef → Option (List Listed) → Option (List Item)
items_of columns None = Some (every_column columns)
items_of columns (Some items) = all_of (map (λ i. item_of columns i.item) items)

-- the condition of WHERE
abbrev pub filter_of : List ColumnDef → Option Tree → Option Cond
filter_of columns None = Some conds.All
filter_of columns (Some tree) = condition_in (meaning columns tree)

-- what an item is that is no call
abbrev pub value_of_item : List ColumnDef → TreeItem → Option Expr
value_of_item columns (tree_items.Value tree) = value_of_tree columns tree
value_of_item columns (tree_items.Call kind argument) = None

-- a value of GROUP BY: the item that it names, or itself
abbrev pub group_of : List ColumnDef → Option Listed → Tree → Option Expr
group_of columns None tree = value_of_tree columns tree
group_of columns (Some named) tree = value_of_item columns named.item

-- what a key of ORDER BY compares: the item that it names, or itself
abbrev pub key_item_of : List ColumnDef → Option Listed → TreeItem → Option Item
key_item_of columns None item = item_of columns item
key_item_of columns (Some named) item = item_of columns named.item

-- the item that a key names
abbrev pub key_named : List Listed → TreeItem → Option Listed
key_named items (tree_items.Value tree) = item_named items tree
key_named items (tree_items.Call kind argument) = None

-- a key of ORDER BY
abbrev pub key_of : List ColumnDef → List Listed → TreeOrder → Option OrderKey
key_of columns items key =
    option_map (λ item. record { item = item; descending = key.descending })
    (key_item_of columns (key_named items key.item) key.item)

-- the query of a SELECT; none where a name is no column, or a value stands for a condition or the other way
-- round
abbrev pub query_of : List ColumnDef → TreeSelect → Option Query
query_of columns select =
    option_and_then (λ items.
    option_and_then (λ filter.
    option_and_then (λ groups.
    option_and_then (λ order. Some (record {
      items = items;
      filter = filter;
      groups = groups;
      order = order;
      limit = select.limit;
    })) (all_of (map (key_of columns (listed select.items)) select.order)))
    (all_of (map (λ tree. group_of columns (value_named (listed select.items) tree) tree) select.groups)))
    (filter_of columns select.filter))
    (items_of columns select.items)
