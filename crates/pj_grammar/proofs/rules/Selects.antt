-- The rules of items, calls and SELECT are read exactly.
use Rattle.std.proofs.Common.{◌≡◌, ℕ, suc, true, false, List, [], ◌∷◌}
use Rattle.std.proofs.Common.{◌++◌, refl, sym, ap, ◌∙◌, inl, inr, Some, None}
use Rattle.std.specs.Prelude.{codes, ◌||◌}
use Rattle.std.proofs.lemmas.List.{append-nil}
use Rattle.pj_value.specs.declared.value.AggKind.TheVariants as aggregates
use Rattle.pj_lex.specs.declared.token.Symbol.TheVariants.{Left, Right, Comma, Star}
use Rattle.pj_grammar.specs.declared.types.Tree.{Tree}
use Rattle.pj_grammar.specs.declared.types.TreeItem.{TreeItem}
use Rattle.pj_grammar.specs.declared.types.TreeItem.TheVariants as items
use Rattle.pj_grammar.specs.Lexemes.{Lexeme, no_value, is_word, is_symbol, spells, same, is_keyword}
use Rattle.pj_grammar.specs.Lexemes.{is_aggregate}
use Rattle.pj_grammar.specs.grammar.Ebnf.{Grammar, Nothing, ◌>>=◌, optional}
use Rattle.pj_grammar.specs.parsing.Parser.{Parser}
use Rattle.pj_grammar.specs.grammar.Words.{keyword, sign, number, behind, listed, in_parens, or_empty}
use Rattle.pj_grammar.specs.grammar.Selects as rules
use Rattle.pj_grammar.specs.grammar.Selects.{or_false}
use Rattle.pj_grammar.specs.parsing.Selects as parsers
use Rattle.pj_grammar.proofs.kinds.Sets as kinds
use Rattle.pj_grammar.proofs.kinds.Sets.{Kinds, kind_of, none, ◌∪◌}
use Rattle.pj_grammar.proofs.kinds.Tests.{keyword_kind, sign_kind}
use Rattle.pj_grammar.proofs.rules.Words.{Exactly, keyword_reads, exactly_reads, sign_reads, name_reads}
use Rattle.pj_grammar.proofs.rules.Words.{number_reads}
use Rattle.pj_grammar.proofs.kinds.SetLemmas.{within-is, agree-is}
use Rattle.pj_grammar.proofs.reads.Reads.{Reads}
use Rattle.pj_grammar.proofs.reads.One.{reads_as}
use Rattle.pj_grammar.proofs.reads.Choice.{or_reads, optional_reads}
use Rattle.pj_grammar.proofs.reads.Ahead.{ahead_reads}
use Rattle.pj_grammar.proofs.reads.Heads.{Single, one_single, or_single, end_single, single_word, heads_then}
use Rattle.pj_grammar.proofs.reads.Sequence.{seq, seq_opt, opt_seq, opt_opt, end, end_opt, listed_reads}
use Rattle.pj_grammar.proofs.reads.Sequence.{in_parens_reads}
use Rattle.pj_grammar.proofs.rules.Settings.{own_sets_reads}
use Rattle.pj_grammar.proofs.rules.Values.{value_first, value_more}
use Rattle.pj_grammar.proofs.rules.Lone.{aggregate_kinds, call_kinds, aggregate_kind, Lone, lone_end}
use Rattle.std.proofs.lemmas.Bool.{cases_Bool, or_left}
use Rattle.pj_grammar.proofs.reads.Then.{or_second}

-- what tells a direction, and what may stand behind ORDER BY and behind a SELECT
abbrev pub direction_first : Kinds
direction_first = kinds.keyword "ASC" ∪ kinds.keyword "DESC"

abbrev pub order_more : Kinds
order_more = direction_first ∪ kinds.sign Comma ∪ value_more

abbrev pub select_more : Kinds
select_more =
    kinds.keyword "WHERE" ∪ kinds.keyword "GROUP" ∪ kinds.keyword "ORDER" ∪ kinds.keyword "LIMIT"
    ∪ kinds.keyword "SETTINGS" ∪ order_more

module _ (n : ℕ) where
  -- sum | min | max | uniqExact
  pub aggregate_reads : Exactly
      aggregate_kinds none false n rules.aggregate parsers.aggregate_at
  unfolding parsers.aggregate_at
  aggregate_reads =
      reads_as
      (or_reads (end (keyword_reads n "SUM" refl) (λ _. aggregates.Sum))
      (or_reads (end (keyword_reads n "MIN" refl) (λ _. aggregates.Min))
      (or_reads (end (keyword_reads n "MAX" refl) (λ _. aggregates.Max))
      (end (exactly_reads n "uniqExact" refl) (λ _. aggregates.UniqExact)) refl _ (keyword_kind "MAX" refl))
      refl _ (keyword_kind "MIN" refl)) refl _ (keyword_kind "SUM" refl))
      refl refl

  -- behind count: "(" ["*"] ")"
  abbrev counting : Grammar TreeItem
  counting = do
    _ ← sign Left
    _ ← optional (sign Star)
    _ ← sign Right
    Nothing (items.Call aggregates.Count None)

  -- count "(" ["*"] ")"
  pub count_call_reads : Exactly (kinds.keyword "COUNT") none false n rules.count_call parsers.count_call_at
  unfolding parsers.count_call_at
  count_call_reads =
      reads_as
      (seq (keyword_reads n "COUNT" refl)
      (λ _. seq (sign_reads n Left)
      (λ _. opt_seq (optional_reads (sign_reads n Star) _ (sign_kind Star))
      (λ _. end (sign_reads n Right) (λ _. items.Call aggregates.Count None)) refl)
      refl) refl)
      refl refl

module _ {n : ℕ} {G W : Grammar Tree} (p : Parser Tree) (v : Reads value_first value_more false n G W p) where
  -- (sum | min | max | uniqExact) "(" value ")"
  pub aggregate_call_reads : Reads aggregate_kinds none false n (rules.aggregate_call G)
      (rules.aggregate_call W) (parsers.aggregate_call_at p)
  unfolding parsers.aggregate_call_at
  aggregate_call_reads =
      reads_as
      (seq (aggregate_reads n)
      (λ kind. end (in_parens_reads v refl refl) (λ argument. items.Call kind (Some argument))) refl)
      refl refl

  -- call
  pub call_reads : Reads call_kinds none false n (rules.call G) (rules.call W)
      (parsers.call_at p)
  unfolding parsers.call_at
  call_reads = reads_as (or_reads (count_call_reads n) aggregate_call_reads refl _
      (keyword_kind "COUNT" refl)) refl refl

module _ (n : ℕ) where
  -- [ASC | DESC], whether it is DESC
  direction_kind : (l : Lexeme) → parsers.begins_direction l ≡ direction_first (kind_of l)
  direction_kind l i = keyword_kind "ASC" refl l i || keyword_kind "DESC" refl l i

  pub direction_reads : Exactly direction_first
      direction_first true n rules.direction parsers.direction_at
  unfolding parsers.direction_at
  direction_reads =
      reads_as
      (end_opt
      (optional_reads
      (reads_as {F' = direction_first} {M' = none}
      (or_reads (end (keyword_reads n "ASC" refl) (λ _. false))
      (end (keyword_reads n "DESC" refl) (λ _. true)) refl _ (keyword_kind "ASC" refl))
      refl refl)
      parsers.begins_direction direction_kind)
      or_false)
      refl refl

  -- [LIMIT number]
  pub maybe_limit_reads : Exactly (kinds.keyword "LIMIT") (kinds.keyword "LIMIT") true n
      (optional (behind (keyword (codes "LIMIT")) number)) parsers.maybe_limit_at
  unfolding parsers.maybe_limit_at
  maybe_limit_reads =
      reads_as (optional_reads (seq (keyword_reads n "LIMIT" refl) (λ _. number_reads n) refl) _
      (keyword_kind "LIMIT" refl)) refl refl

-- ---- a call or a value

module _ (n : ℕ) {m : ℕ} {G W : Grammar Tree} (p : Parser Tree)
    (v : Reads value_first value_more false m G W p) where
  count_heads : (ts : List Lexeme) (a : TreeItem) → rules.count_call ts a
      → (t u : Lexeme) × (w : List Lexeme) × (ts ≡ t ∷ u ∷ w) × (is_aggregate t ≡ true)
      × (is_symbol Left u ≡ true)
  count_heads ts a w = (
    w.one.lexeme,
    w.other.one.lexeme,
    w.other.back,
    w.all ∙ ap (λ (xs : List Lexeme). xs ++ w.back) w.one.only
        ∙ ap (λ (xs : List Lexeme). w.one.lexeme ∷ xs)
        (w.other.all ∙ ap (λ (xs : List Lexeme). xs ++ w.other.back) w.other.one.only),
    or_left (is_keyword (codes "COUNT") w.one.lexeme) _ w.one.passes,
    w.other.one.passes,
  )

  -- each word of an aggregate is one lexeme
  aggregate_single : Single rules.aggregate
  aggregate_single =
      or_single (end_single (λ _. aggregates.Sum) (one_single (is_word (spells (codes "SUM"))) no_value))
      (or_single (end_single (λ _. aggregates.Min) (one_single (is_word (spells (codes "MIN"))) no_value))
      (or_single (end_single (λ _. aggregates.Max) (one_single (is_word (spells (codes "MAX"))) no_value))
      (end_single (λ _. aggregates.UniqExact)
      (one_single (is_word (λ w. same w (codes "uniqExact"))) no_value))))

  aggregate_heads : (ts : List Lexeme) (a : TreeItem) → rules.aggregate_call G ts a
      → (t u : Lexeme) × (w : List Lexeme) × (ts ≡ t ∷ u ∷ w) × (is_aggregate t ≡ true)
      × (is_symbol Left u ≡ true)
  aggregate_heads ts a w =
      let h = heads_then aggregate_single (aggregate_reads n).plain
      (λ kind. (end (in_parens_reads v refl refl) (λ argument. items.Call kind (Some argument))).plain) ts a w
      in (
        h.one,
        h.next,
        h.more,
        h.all,
        aggregate_kind h.one ∙ within-is aggregate_kinds call_kinds refl h.one h.first,
        sign_kind Left h.next ∙ h.second,
      )

  call_heads : (ts : List Lexeme) (a : TreeItem) → rules.call G ts a
      → (t u : Lexeme) × (w : List Lexeme) × (ts ≡ t ∷ u ∷ w) × (is_aggregate t ≡ true)
      × (is_symbol Left u ≡ true)
  call_heads ts a (inl w) = count_heads ts a w
  call_heads ts a (inr w) = aggregate_heads ts a w

  -- a parenthesis and some value in it
  parens_some : (u : Lexeme) → is_symbol Left u ≡ true
      → (w : List Lexeme) × (tree : Tree) × in_parens G (u ∷ w) tree
  parens_some u is_u =
      let more = (seq v (λ a. end (sign_reads m Right) (λ _. a)) refl).plain.some in (
        more.0,
        more.1,
        record {
          front = u ∷ [];
          back = more.0;
          found = tt;
          all = refl;
          one = record { lexeme = u; only = refl; passes = is_u; taken = refl };
          other = more.2;
        },
      )

  aggregate_goes : (t u : Lexeme) → aggregate_kinds (kind_of t) ≡ true
      → is_symbol Left u ≡ true
      → (w : List Lexeme) × (a : TreeItem) × rules.call G (t ∷ u ∷ w) a
  aggregate_goes t u first is_u =
      let word = single_word (aggregate_reads (suc n)) aggregate_single t first in
      let behind = parens_some u is_u in (
        behind.0,
        items.Call word.0 (Some behind.1),
        inr (record {
          front = t ∷ [];
          back = u ∷ behind.0;
          found = word.0;
          all = refl;
          one = word.1;
          other =
              record {
                front = u ∷ behind.0;
                back = [];
                found = behind.1;
                all = sym (append-nil (u ∷ behind.0));
                one = behind.2;
                other = record { empty = refl; is = refl };
              };
        }),
      )

  count_goes : (t u : Lexeme) → is_keyword (codes "COUNT") t ≡ true → is_symbol Left u ≡ true
      → (w : List Lexeme) × (a : TreeItem) × rules.call G (t ∷ u ∷ w) a
  count_goes t u is_t is_u =
      let more =
      (opt_seq (optional_reads (sign_reads n Star) _ (sign_kind Star))
      (λ _. end (sign_reads n Right) (λ _. items.Call aggregates.Count None)) refl).plain.some in (
        more.0,
        more.1,
        inl (record {
          front = t ∷ [];
          back = u ∷ more.0;
          found = tt;
          all = refl;
          one = record { lexeme = t; only = refl; passes = is_t; taken = refl };
          other = record {
            front = u ∷ [];
            back = more.0;
            found = tt;
            all = refl;
            one = record { lexeme = u; only = refl; passes = is_u; taken = refl };
            other = more.2;
          };
        }),
      )

  call_goes : (t u : Lexeme) → is_aggregate t ≡ true → is_symbol Left u ≡ true
      → (w : List Lexeme) × (a : TreeItem) × rules.call G (t ∷ u ∷ w) a
  call_goes t u is_t is_u =
      elim (cases_Bool (is_keyword (codes "COUNT") t)) [
        | inl count ↦ count_goes t u count is_u
        | inr other ↦
            aggregate_goes t u
            (without-first (kind_of t) (sym (keyword_kind "COUNT" refl t) ∙ other)
            (sym (aggregate_kind t) ∙ is_t)) is_u
      ]
    where
      without-first : (k : ℕ) → kinds.keyword "COUNT" k ≡ false → call_kinds k ≡ true
          → aggregate_kinds k ≡ true
      without-first k no' in_all = or_second (kinds.keyword "COUNT" k) _ no' in_all

module _ {n : ℕ} {G W : Grammar Tree} (p : Parser Tree) (v : Reads value_first value_more false n G W p)
    (lone : Lone G) where
  value_item_lone : Lone (G >>= λ tree. Nothing (items.Value tree))
  value_item_lone = lone_end items.Value lone v.plain

  -- call | value
  pub call_or_value_reads : Reads value_first value_more false n (rules.call_or_value G)
      (rules.call_or_value W) (parsers.call_or_value_at p)
  unfolding parsers.call_or_value_at
  call_or_value_reads =
      reads_as
      (ahead_reads (call_reads p v) (end v items.Value) is_aggregate (is_symbol Left)
      (kinds.sign Left)
      (sign_kind Left)
      (call_heads n p v) (call_goes n p v) value_item_lone
      (λ t is_t. within-is call_kinds value_first refl t (sym (aggregate_kind t) ∙ is_t)))
      refl refl

  -- item
  pub item_reads : Reads value_first (kinds.keyword "AS" ∪ value_more) false n (rules.item G) (rules.item W)
      (parsers.item_at p)
  unfolding parsers.item_at
  item_reads =
      reads_as
      (seq_opt call_or_value_reads
      (λ computed. end_opt (optional_reads (seq (keyword_reads n "AS" refl) (λ _. name_reads n) refl) _
      (keyword_kind "AS" refl))
      (λ alias. record { item = computed; alias = alias }))
      refl)
      refl refl

  -- item {"," item}
  pub items_reads : Reads value_first (kinds.keyword "AS" ∪ kinds.sign Comma ∪ value_more) false n
      (listed (rules.item G))
      (listed (rules.item W)) (parsers.items_at p)
  unfolding parsers.items_at
  items_reads = reads_as (listed_reads item_reads refl refl) refl refl

  -- items
  pub item_list_reads : Reads (kinds.sign Star ∪ value_first)
      (kinds.keyword "AS" ∪ kinds.sign Comma ∪ value_more) false n
      (rules.item_list G) (rules.item_list W) (parsers.item_list_at p)
  unfolding parsers.item_list_at
  item_list_reads =
      reads_as (or_reads (end (sign_reads n Star) (λ _. None)) (end items_reads Some) refl _ (sign_kind Star))
      refl refl

  -- value {"," value}
  pub values_reads : Reads value_first (kinds.sign Comma ∪ value_more) false n (listed G) (listed W)
      (parsers.values_at p)
  unfolding parsers.values_at
  values_reads = reads_as (listed_reads v refl refl) refl refl

  -- GROUP BY value {"," value}
  pub group_by_reads : Reads (kinds.keyword "GROUP") (kinds.sign Comma ∪ value_more) false n
      (rules.group_by G)
      (rules.group_by W) (parsers.group_by_at p)
  unfolding parsers.group_by_at
  group_by_reads = seq (keyword_reads n "GROUP" refl)
      (λ _. seq (keyword_reads n "BY" refl) (λ _. values_reads) refl) refl

  -- okey
  pub order_key_reads : Reads value_first (direction_first ∪ value_more) false n (rules.order_key G)
      (rules.order_key W) (parsers.order_key_at p)
  unfolding parsers.order_key_at
  order_key_reads =
      reads_as (seq_opt call_or_value_reads
      (λ computed. end_opt (direction_reads n)
      (λ descending. record { item = computed; descending = descending }))
      refl)
      refl refl

  -- okey {"," okey}
  pub order_keys_reads : Reads value_first order_more false n
      (listed (rules.order_key G)) (listed (rules.order_key W)) (parsers.order_keys_at p)
  unfolding parsers.order_keys_at
  order_keys_reads = reads_as (listed_reads order_key_reads refl refl) refl refl

  -- ORDER BY okey {"," okey}
  pub order_by_reads : Reads (kinds.keyword "ORDER") order_more false n (rules.order_by G)
      (rules.order_by W) (parsers.order_by_at p)
  unfolding parsers.order_by_at
  order_by_reads = seq (keyword_reads n "ORDER" refl)
      (λ _. seq (keyword_reads n "BY" refl) (λ _. order_keys_reads) refl) refl

  -- WHERE value
  pub where_value_reads : Reads (kinds.keyword "WHERE") value_more false n (rules.where_value G)
      (rules.where_value W)
      (parsers.where_value_at p)
  unfolding parsers.where_value_at
  where_value_reads = seq (keyword_reads n "WHERE" refl) (λ _. v) refl

  -- [WHERE value], [GROUP BY ..], [ORDER BY ..], [LIMIT number]
  pub maybe_where_reads : Reads (kinds.keyword "WHERE") (kinds.keyword "WHERE" ∪ value_more) true n
      (optional (rules.where_value G))
      (optional (rules.where_value W)) (parsers.maybe_where_at p)
  unfolding parsers.maybe_where_at
  maybe_where_reads = reads_as (optional_reads where_value_reads _ (keyword_kind "WHERE" refl)) refl refl

  pub maybe_groups_reads : Reads (kinds.keyword "GROUP")
      (kinds.keyword "GROUP" ∪ kinds.sign Comma ∪ value_more) true n
      (optional (rules.group_by G)) (optional (rules.group_by W)) (parsers.maybe_groups_at p)
  unfolding parsers.maybe_groups_at
  maybe_groups_reads = reads_as (optional_reads group_by_reads _ (keyword_kind "GROUP" refl)) refl refl

  pub maybe_order_reads : Reads (kinds.keyword "ORDER") (kinds.keyword "ORDER" ∪ order_more) true n
      (optional (rules.order_by G)) (optional (rules.order_by W)) (parsers.maybe_order_at p)
  unfolding parsers.maybe_order_at
  maybe_order_reads = reads_as (optional_reads order_by_reads _ (keyword_kind "ORDER" refl)) refl refl

  -- select
  pub select_reads : Reads (kinds.keyword "SELECT") select_more false n (rules.select G) (rules.select W)
      (parsers.select_at p)
  unfolding parsers.select_at
  select_reads =
      reads_as
      (seq (keyword_reads n "SELECT" refl)
      (λ _. seq item_list_reads
      (λ list. seq (keyword_reads n "FROM" refl)
      (λ _. seq_opt (name_reads n)
      (λ table. opt_opt maybe_where_reads
      (λ filter. opt_opt maybe_groups_reads
      (λ groups. opt_opt maybe_order_reads
      (λ order. opt_opt (maybe_limit_reads n)
      (λ limit. end_opt (own_sets_reads n)
      (λ own. record {
        items = list;
        table = table;
        filter = filter;
        groups = or_empty groups;
        order = or_empty order;
        limit = limit;
        sets = own;
      }))
      refl) refl) refl) refl) refl) refl) refl) refl)
      refl refl

  -- EXPLAIN [PLAN] select
  pub explain_reads : Reads (kinds.keyword "EXPLAIN") select_more false n (rules.explain G) (rules.explain W)
      (parsers.explain_at p)
  unfolding parsers.explain_at
  explain_reads =
      reads_as (seq (keyword_reads n "EXPLAIN" refl)
      (λ _. opt_seq (optional_reads (keyword_reads n "PLAN" refl) _ (keyword_kind "PLAN" refl))
      (λ _. select_reads) refl) refl)
      refl refl
