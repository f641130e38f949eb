-- The rules of definitions of tables and projections are read exactly.
use Rattle.std.proofs.Common.{ℕ, true, false, List, [], ◌∷◌, refl}
use Rattle.std.specs.Prelude.{codes}
use Rattle.pj_value.specs.declared.value.Kind.TheVariants as kind_words
use Rattle.pj_lex.specs.declared.token.Symbol.TheVariants.{Left, Right, Comma, Eq}
use Rattle.pj_grammar.specs.declared.types.Tree.{Tree}
use Rattle.pj_grammar.specs.declared.types.TreeProj.{TreeProj}
use Rattle.pj_grammar.specs.declared.types.Statement.TheVariants as statements
use Rattle.pj_grammar.specs.grammar.Ebnf.{Grammar, Nothing, ◌>>=◌, optional}
use Rattle.pj_grammar.specs.parsing.Parser.{Parser}
use Rattle.pj_grammar.specs.grammar.Words.{name, listed, in_parens, or_empty, keyword, sign}
use Rattle.pj_grammar.specs.grammar.Settings.{table_set}
use Rattle.pj_grammar.specs.grammar.Selects.{item_list, group_by}
use Rattle.pj_grammar.specs.grammar.Tables as rules
use Rattle.pj_grammar.specs.grammar.Tables.{defined, projected, columns_in, projections_in}
use Rattle.pj_grammar.specs.parsing.Tables as parsers
use Rattle.pj_grammar.proofs.kinds.Sets as kinds
use Rattle.pj_grammar.proofs.kinds.Sets.{none, ◌∪◌}
use Rattle.pj_grammar.proofs.kinds.Tests.{keyword_kind, exactly_kind, sign_kind}
use Rattle.pj_grammar.proofs.rules.Words.{Exactly, keyword_reads, exactly_reads, sign_reads, name_reads}
use Rattle.pj_grammar.proofs.rules.Words.{list_name_reads}
use Rattle.pj_grammar.proofs.reads.Reads.{Reads}
use Rattle.pj_grammar.proofs.reads.One.{reads_as}
use Rattle.pj_grammar.proofs.reads.Choice.{or_reads, optional_reads}
use Rattle.pj_grammar.proofs.reads.Many.{many_reads}
use Rattle.pj_grammar.proofs.reads.Sequence.{seq, seq_opt, opt_seq, end, end_opt, listed_reads}
use Rattle.pj_grammar.proofs.reads.Sequence.{in_parens_reads}
use Rattle.pj_grammar.proofs.rules.Settings.{table_set_first, table_set_reads}
use Rattle.pj_grammar.proofs.rules.Values.{value_first, value_more}
use Rattle.pj_grammar.proofs.rules.Lone.{Lone}
use Rattle.pj_grammar.proofs.rules.Selects.{item_list_reads, maybe_groups_reads}

module _ (n : ℕ) where
  -- name {"," name}
  pub names_reads : Exactly kinds.name (kinds.sign Comma) false n (listed name) parsers.names_at
  unfolding parsers.names_at
  names_reads = reads_as (listed_reads (name_reads n) refl refl) refl refl

  -- "(" name {"," name} ")"
  pub names_in_parens_reads : Exactly (kinds.sign Left) none false n
      (in_parens (listed name)) parsers.names_in_parens_at
  unfolding parsers.names_in_parens_at
  names_in_parens_reads = in_parens_reads names_reads refl refl

  -- "(" name {"," name} ")" | name {"," name}
  pub order_names_reads : Exactly (kinds.sign Left ∪ kinds.name)
      (kinds.sign Comma) false n rules.order_names parsers.order_names_at
  unfolding parsers.order_names_at
  order_names_reads = reads_as (or_reads names_in_parens_reads names_reads refl _ (sign_kind Left)) refl refl

  -- ORDER BY ..
  pub projection_order_reads : Exactly (kinds.keyword "ORDER")
      (kinds.sign Comma) false n rules.projection_order parsers.projection_order_at
  unfolding parsers.projection_order_at
  projection_order_reads = seq (keyword_reads n "ORDER" refl)
      (λ _. seq (keyword_reads n "BY" refl) (λ _. order_names_reads) refl) refl

  pub maybe_projection_order_reads : Exactly (kinds.keyword "ORDER")
      (kinds.keyword "ORDER" ∪ kinds.sign Comma) true n
      (optional rules.projection_order) parsers.maybe_projection_order_at
  unfolding parsers.maybe_projection_order_at
  maybe_projection_order_reads = reads_as (optional_reads projection_order_reads _
      (keyword_kind "ORDER" refl)) refl refl

  -- UInt64 | String
  pub kind_reads : Exactly (kinds.exactly "UInt64" ∪ kinds.exactly "String") none false n rules.kind
      parsers.kind_at
  unfolding parsers.kind_at
  kind_reads =
      reads_as (or_reads (end (exactly_reads n "UInt64" refl) (λ _. kind_words.Num))
      (end (exactly_reads n "String" refl) (λ _. kind_words.Text)) refl _ (exactly_kind "UInt64" refl))
      refl refl

  -- column
  pub column_reads : Exactly kinds.name none false n rules.column parsers.column_at
  unfolding parsers.column_at
  column_reads = seq (name_reads n) (λ bytes. end kind_reads (λ of. record { name = bytes; kind = of })) refl

  -- key
  pub key_reads : Exactly (kinds.sign Left ∪ kinds.name) none false n rules.key parsers.key_at
  unfolding parsers.key_at
  key_reads =
      reads_as (or_reads names_in_parens_reads (end (name_reads n) (λ one. one ∷ [])) refl _ (sign_kind Left))
      refl
      refl

  -- ORDER BY key
  pub table_key_reads : Exactly (kinds.keyword "ORDER") none false n rules.table_key parsers.table_key_at
  unfolding parsers.table_key_at
  table_key_reads = seq (keyword_reads n "ORDER" refl)
      (λ _. seq (keyword_reads n "BY" refl) (λ _. key_reads) refl) refl

  -- ENGINE "=" MergeTree ["(" ")"]
  pub engine_reads : Exactly (kinds.keyword "ENGINE") (kinds.sign Left) false n rules.engine parsers.engine_at
  unfolding parsers.engine_at
  engine_reads =
      reads_as
      (seq (keyword_reads n "ENGINE" refl)
      (λ _. seq (sign_reads n Eq)
      (λ _. seq_opt (exactly_reads n "MergeTree" refl)
      (λ _. end_opt (optional_reads (seq (sign_reads n Left) (λ _. sign_reads n Right) refl) _
      (sign_kind Left))
      (λ _. tt))
      refl) refl) refl)
      refl refl

  -- tset {"," tset}
  pub table_set_list_reads : Exactly table_set_first (kinds.sign Comma) false n
      (listed table_set) parsers.table_set_list_at
  unfolding parsers.table_set_list_at
  table_set_list_reads = reads_as (listed_reads (table_set_reads n) refl refl) refl refl

  -- [SETTINGS tset {"," tset}]
  pub table_sets_reads : Exactly (kinds.keyword "SETTINGS") (kinds.keyword "SETTINGS" ∪ kinds.sign Comma) true
      n rules.table_sets parsers.table_sets_at
  unfolding parsers.table_sets_at
  table_sets_reads =
      reads_as (end_opt
      (optional_reads (seq (keyword_reads n "SETTINGS" refl) (λ _. table_set_list_reads) refl) _
      (keyword_kind "SETTINGS" refl)) or_empty)
      refl refl

module _ {n : ℕ} {G W : Grammar Tree} (p : Parser Tree) (v : Reads value_first value_more false n G W p)
    (lone : Lone G) where
  -- behind a projection's name
  abbrev behind_name : Grammar Tree → List ℕ → Grammar TreeProj
  behind_name value name = do
    _ ← sign Left
    _ ← keyword (codes "SELECT")
    list ← item_list value
    groups ← optional (group_by value)
    order ← optional rules.projection_order
    _ ← sign Right
    Nothing (record { name = name; items = list; groups = groups; order = order })

  pub proj_behind_reads : (name : List ℕ)
      → Reads (kinds.sign Left) none false n (behind_name G name) (behind_name W name)
      (parsers.proj_behind_at p name)
  unfolding parsers.proj_behind_at
  proj_behind_reads name =
      reads_as
      (seq (sign_reads n Left)
      (λ _. seq (keyword_reads n "SELECT" refl)
      (λ _. seq (item_list_reads p v lone)
      (λ list. opt_seq (maybe_groups_reads p v lone)
      (λ groups. opt_seq (maybe_projection_order_reads n)
      (λ order. end (sign_reads n Right)
      (λ _. record { name = name; items = list; groups = groups; order = order }))
      refl) refl) refl) refl) refl)
      refl refl

  -- PROJECTION proj | column
  pub member_reads : Reads (kinds.keyword "PROJECTION" ∪ kinds.name) none false n (rules.member G)
      (rules.member W)
      (parsers.member_at p)
  unfolding parsers.member_at
  member_reads =
      reads_as
      (or_reads
      (end (seq (keyword_reads n "PROJECTION" refl)
      (λ _. seq (list_name_reads n) (λ name. proj_behind_reads name) refl) refl)
      projected)
      (end (column_reads n) defined) refl _ (keyword_kind "PROJECTION" refl))
      refl refl

  -- "(" column {"," (column | PROJECTION proj)} ")"
  pub members_reads : Reads (kinds.sign Left) none false n (rules.members G) (rules.members W)
      (parsers.members_at p)
  unfolding parsers.members_at
  members_reads =
      reads_as
      (seq (sign_reads n Left)
      (λ _. seq (column_reads n)
      (λ first. opt_seq (many_reads (seq (sign_reads n Comma) (λ _. member_reads) refl) refl _
      (sign_kind Comma))
      (λ more. end (sign_reads n Right) (λ _. (first, more))) refl) refl) refl)
      refl refl

  -- create
  pub create_reads : Reads (kinds.keyword "CREATE") (kinds.keyword "SETTINGS" ∪ kinds.sign Comma) false n
      (rules.create G) (rules.create W)
      (parsers.create_at p)
  unfolding parsers.create_at
  create_reads =
      reads_as
      (seq (keyword_reads n "CREATE" refl)
      (λ _. seq (keyword_reads n "TABLE" refl)
      (λ _. seq (list_name_reads n)
      (λ name. seq members_reads
      (λ list. seq (engine_reads n)
      (λ _. seq_opt (table_key_reads n)
      (λ by. end_opt (table_sets_reads n)
      (λ settings. statements.Create name (list.0 ∷ columns_in list.1)
      (projections_in list.1) by settings))
      refl) refl) refl) refl) refl) refl)
      refl refl
