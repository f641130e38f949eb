-- Items, calls and SELECT (docs/GRAMMAR.md, "Statements").
use Rattle.std.specs.Prelude.{Bool, true, false, List, Option, Some, None, codes}
use Rattle.pj_value.specs.declared.value.AggKind.{AggKind}
use Rattle.pj_value.specs.declared.value.AggKind.TheVariants as aggregates
use Rattle.pj_lex.specs.declared.token.Symbol.TheVariants.{Left, Right, Star}
use Rattle.pj_grammar.specs.declared.types.Tree.{Tree}
use Rattle.pj_grammar.specs.declared.types.TreeItem.{TreeItem}
use Rattle.pj_grammar.specs.declared.types.TreeItem.TheVariants as items
use Rattle.pj_grammar.specs.declared.types.Listed.{Listed}
use Rattle.pj_grammar.specs.declared.types.TreeOrder.{TreeOrder}
use Rattle.pj_grammar.specs.declared.types.TreeSelect.{TreeSelect}
use Rattle.pj_grammar.specs.grammar.Ebnf.{Grammar, Nothing, ◌>>=◌, ◌or◌, optional}
use Rattle.pj_grammar.specs.grammar.Words.{keyword, exactly, sign, name, number, means, behind, listed}
use Rattle.pj_grammar.specs.grammar.Words.{in_parens, or_empty}
use Rattle.pj_grammar.specs.grammar.Settings.{flag, own_sets}

-- sum | min | max | uniqExact
abbrev pub aggregate : Grammar AggKind
aggregate =
    means (keyword (codes "SUM")) aggregates.Sum
    or (means (keyword (codes "MIN")) aggregates.Min
    or (means (keyword (codes "MAX")) aggregates.Max or means
    (exactly (codes "uniqExact")) aggregates.UniqExact))

-- count "(" ["*"] ")"
abbrev pub count_call : Grammar TreeItem
count_call = do
  _ ← keyword (codes "COUNT")
  _ ← sign Left
  _ ← optional (sign Star)
  _ ← sign Right
  Nothing (items.Call aggregates.Count None)

-- (sum | min | max | uniqExact) "(" value ")"
abbrev pub aggregate_call : Grammar Tree → Grammar TreeItem
aggregate_call value = do
  kind ← aggregate
  argument ← in_parens value
  Nothing (items.Call kind (Some argument))

-- call = count "(" ["*"] ")" | (sum | min | max | uniqExact) "(" value ")"
abbrev pub call : Grammar Tree → Grammar TreeItem
call value = count_call or aggregate_call value

-- call | value
abbrev pub call_or_value : Grammar Tree → Grammar TreeItem
call_or_value value =
    call value
    or (do
      tree ← value
      Nothing (items.Value tree))

-- item = (call | value) [AS name]
abbrev pub item : Grammar Tree → Grammar Listed
item value = do
  computed ← call_or_value value
  alias ← optional (behind (keyword (codes "AS")) name)
  Nothing (record { item = computed; alias = alias })

-- items = "*" | item {"," item}
abbrev pub item_list : Grammar Tree → Grammar (Option (List Listed))
item_list value =
    means (sign Star) None
    or (do
      list ← listed (item value)
      Nothing (Some list))

-- the flag, false where there is none
abbrev pub or_false : Option Bool → Bool
or_false None = false
or_false (Some flag) = flag

-- [ASC | DESC], whether it is DESC
abbrev pub direction : Grammar Bool
direction = do
  found ← optional (means (keyword (codes "ASC")) false or means (keyword (codes "DESC")) true)
  Nothing (or_false found)

-- okey = (call | value) [ASC | DESC]
abbrev pub order_key : Grammar Tree → Grammar TreeOrder
order_key value = do
  computed ← call_or_value value
  descending ← direction
  Nothing (record { item = computed; descending = descending })

-- GROUP BY value {"," value}
abbrev pub group_by : Grammar Tree → Grammar (List Tree)
group_by value = do
  _ ← keyword (codes "GROUP")
  _ ← keyword (codes "BY")
  listed value

-- ORDER BY okey {"," okey}
abbrev pub order_by : Grammar Tree → Grammar (List TreeOrder)
order_by value = do
  _ ← keyword (codes "ORDER")
  _ ← keyword (codes "BY")
  listed (order_key value)

-- WHERE value
abbrev pub where_value : Grammar Tree → Grammar Tree
where_value value = behind (keyword (codes "WHERE")) value

-- select = SELECT items FROM name [WHERE value] [GROUP BY value {"," value}] [ORDER BY okey {"," okey}]
-- [LIMIT number] [SETTINGS sets]
abbrev pub select : Grammar Tree → Grammar TreeSelect
select value = do
  _ ← keyword (codes "SELECT")
  list ← item_list value
  _ ← keyword (codes "FROM")
  table ← name
  filter ← optional (where_value value)
  groups ← optional (group_by value)
  order ← optional (order_by value)
  limit ← optional (behind (keyword (codes "LIMIT")) number)
  own ← own_sets
  Nothing (record {
    items = list;
    table = table;
    filter = filter;
    groups = or_empty groups;
    order = or_empty order;
    limit = limit;
    sets = own;
  })

-- EXPLAIN [PLAN] select
abbrev pub explain : Grammar Tree → Grammar TreeSelect
explain value = do
  _ ← keyword (codes "EXPLAIN")
  _ ← optional (keyword (codes "PLAN"))
  select value
