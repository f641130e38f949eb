-- How items, calls and SELECT are read. Of public contracts those of `pj_phrase` and
-- `pj_sentence` alone cite it.
use Rattle.std.specs.Prelude.{ℕ, Bool, true, false, ◌||◌, List, Option, Some, None, codes}
use Rattle.pj_value.specs.declared.value.AggKind.{AggKind}
use Rattle.pj_value.specs.declared.value.AggKind.TheVariants as aggregates
use Rattle.pj_lex.specs.declared.token.Symbol.TheVariants.{Left, Right, Star}
use Rattle.pj_grammar.specs.declared.types.Tree.{Tree}
use Rattle.pj_grammar.specs.declared.types.TreeItem.{TreeItem}
use Rattle.pj_grammar.specs.declared.types.TreeItem.TheVariants as items
use Rattle.pj_grammar.specs.declared.types.Listed.{Listed}
use Rattle.pj_grammar.specs.declared.types.TreeOrder.{TreeOrder}
use Rattle.pj_grammar.specs.declared.types.TreeSelect.{TreeSelect}
use Rattle.pj_grammar.specs.Lexemes.{Lexeme, is_symbol, is_keyword, is_aggregate}
use Rattle.pj_grammar.specs.grammar.Words.{or_empty}
use Rattle.pj_grammar.specs.grammar.Selects.{or_false}
use Rattle.pj_grammar.specs.parsing.Parser.{Parser, ◌>>=◌, nothing_at, or_at, ahead_at, optional_at}
use Rattle.pj_grammar.specs.parsing.Words.{keyword_at, exactly_at, sign_at, name_at, number_at, means_at}
use Rattle.pj_grammar.specs.parsing.Words.{behind_at, listed_at, in_parens_at}
use Rattle.pj_grammar.specs.parsing.Settings.{own_sets_at}

-- sum | min | max | uniqExact
unfoldable pub aggregate_at : Parser AggKind
aggregate_at =
    or_at (is_keyword (codes "SUM")) (means_at (keyword_at (codes "SUM")) aggregates.Sum)
    (or_at (is_keyword (codes "MIN")) (means_at (keyword_at (codes "MIN")) aggregates.Min)
    (or_at (is_keyword (codes "MAX")) (means_at (keyword_at (codes "MAX")) aggregates.Max)
    (means_at (exactly_at (codes "uniqExact")) aggregates.UniqExact)))

-- count "(" ["*"] ")"
unfoldable pub count_call_at : Parser TreeItem
count_call_at = do
  _ ← keyword_at (codes "COUNT")
  _ ← sign_at Left
  _ ← optional_at (is_symbol Star) (sign_at Star)
  _ ← sign_at Right
  nothing_at (items.Call aggregates.Count None)

-- (sum | min | max | uniqExact) "(" value ")"
unfoldable pub aggregate_call_at : Parser Tree → Parser TreeItem
aggregate_call_at value = do
  kind ← aggregate_at
  argument ← in_parens_at value
  nothing_at (items.Call kind (Some argument))

-- call
unfoldable pub call_at : Parser Tree → Parser TreeItem
call_at value = or_at (is_keyword (codes "COUNT")) count_call_at (aggregate_call_at value)

-- call | value
unfoldable pub call_or_value_at : Parser Tree → Parser TreeItem
call_or_value_at value =
    ahead_at is_aggregate (is_symbol Left) (call_at value) (value >>= λ tree. nothing_at (items.Value tree))

-- item
unfoldable pub item_at : Parser Tree → Parser Listed
item_at value = do
  computed ← call_or_value_at value
  alias ← optional_at (is_keyword (codes "AS")) (behind_at (keyword_at (codes "AS")) name_at)
  nothing_at (record { item = computed; alias = alias })

-- item {"," item}
unfoldable pub items_at : Parser Tree → Parser (List Listed)
items_at value = listed_at (item_at value)

-- items
unfoldable pub item_list_at : Parser Tree → Parser (Option (List Listed))
item_list_at value =
    or_at (is_symbol Star) (means_at (sign_at Star) None) (items_at value >>= λ list. nothing_at (Some list))

-- ASC | DESC
abbrev pub begins_direction : Lexeme → Bool
begins_direction lexeme = is_keyword (codes "ASC") lexeme || is_keyword (codes "DESC") lexeme

-- [ASC | DESC], whether it is DESC
unfoldable pub direction_at : Parser Bool
direction_at = do
  found ← optional_at begins_direction
      (or_at (is_keyword (codes "ASC")) (means_at (keyword_at (codes "ASC")) false)
      (means_at (keyword_at (codes "DESC")) true))
  nothing_at (or_false found)

-- okey
unfoldable pub order_key_at : Parser Tree → Parser TreeOrder
order_key_at value = do
  computed ← call_or_value_at value
  descending ← direction_at
  nothing_at (record { item = computed; descending = descending })

-- value {"," value}
unfoldable pub values_at : Parser Tree → Parser (List Tree)
values_at value = listed_at value

-- GROUP BY value {"," value}
unfoldable pub group_by_at : Parser Tree → Parser (List Tree)
group_by_at value = do
  _ ← keyword_at (codes "GROUP")
  _ ← keyword_at (codes "BY")
  values_at value

-- okey {"," okey}
unfoldable pub order_keys_at : Parser Tree → Parser (List TreeOrder)
order_keys_at value = listed_at (order_key_at value)

-- ORDER BY okey {"," okey}
unfoldable pub order_by_at : Parser Tree → Parser (List TreeOrder)
order_by_at value = do
  _ ← keyword_at (codes "ORDER")
  _ ← keyword_at (codes "BY")
  order_keys_at value

-- WHERE value
unfoldable pub where_value_at : Parser Tree → Parser Tree
where_value_at value = behind_at (keyword_at (codes "WHERE")) value

-- [WHERE value]
unfoldable pub maybe_where_at : Parser Tree → Parser (Option Tree)
maybe_where_at value = optional_at (is_keyword (codes "WHERE")) (where_value_at value)

-- [GROUP BY value {"," value}]
unfoldable pub maybe_groups_at : Parser Tree → Parser (Option (List Tree))
maybe_groups_at value = optional_at (is_keyword (codes "GROUP")) (group_by_at value)

-- [ORDER BY okey {"," okey}]
unfoldable pub maybe_order_at : Parser Tree → Parser (Option (List TreeOrder))
maybe_order_at value = optional_at (is_keyword (codes "ORDER")) (order_by_at value)

-- [LIMIT number]
unfoldable pub maybe_limit_at : Parser (Option ℕ)
maybe_limit_at = optional_at (is_keyword (codes "LIMIT")) (behind_at (keyword_at (codes "LIMIT")) number_at)

-- select
unfoldable pub select_at : Parser Tree → Parser TreeSelect
select_at value = do
  _ ← keyword_at (codes "SELECT")
  list ← item_list_at value
  _ ← keyword_at (codes "FROM")
  table ← name_at
  filter ← maybe_where_at value
  groups ← maybe_groups_at value
  order ← maybe_order_at value
  limit ← maybe_limit_at
  own ← own_sets_at
  nothing_at (record {
    items = list;
    table = table;
    filter = filter;
    groups = or_empty groups;
    order = or_empty order;
    limit = limit;
    sets = own;
  })

-- EXPLAIN [PLAN] select
unfoldable pub explain_at : Parser Tree → Parser TreeSelect
explain_at value = do
  _ ← keyword_at (codes "EXPLAIN")
  _ ← optional_at (is_keyword (codes "PLAN")) (keyword_at (codes "PLAN"))
  select_at value
