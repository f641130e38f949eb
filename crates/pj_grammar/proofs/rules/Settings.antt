-- The rules of settings are read exactly.
use Prim.Native.String.{String}
use Rattle.std.proofs.Common.{◌≡◌, Bool, ℕ, true, false, [], ◌∷◌, refl}
use Rattle.std.specs.Prelude.{codes, ◌==◌, nat_le, ◌&&◌}
use Rattle.pj_lex.specs.declared.token.Symbol.TheVariants.{Comma, Eq}
use Rattle.pj_grammar.specs.declared.types.SetWord.{SetWord}
use Rattle.pj_grammar.specs.declared.types.SetWord.TheVariants as sets
use Rattle.pj_grammar.specs.declared.types.ModeWord.TheVariants as mode_words
use Rattle.pj_grammar.specs.declared.types.TableWord.TheVariants as table_words
use Rattle.pj_grammar.specs.Lexemes.{number, no_value, number_of, is_number}
use Rattle.pj_grammar.specs.grammar.Words.{or_empty}
use Rattle.pj_grammar.specs.grammar.Settings as rules
use Rattle.pj_grammar.specs.parsing.Settings as parsers
use Rattle.pj_grammar.proofs.kinds.Sets as kinds
use Rattle.pj_grammar.proofs.kinds.Sets.{Kinds, none, ◌∪◌}
use Rattle.pj_grammar.proofs.kinds.Words.{is_exact}
use Rattle.pj_grammar.proofs.kinds.Tests.{keyword_kind, exactly_kind, text_exactly_kind, granule_kind}
use Rattle.pj_grammar.proofs.kinds.Tests.{zero_kind, one_kind}
use Rattle.pj_grammar.proofs.rules.Words.{Exactly, keyword_reads, exactly_reads, text_exactly_reads}
use Rattle.pj_grammar.proofs.rules.Words.{sign_reads}
use Rattle.pj_grammar.proofs.reads.One.{one_reads, reads_as}
use Rattle.pj_grammar.proofs.reads.Choice.{or_reads, optional_reads}
use Rattle.pj_grammar.proofs.reads.Sequence.{seq, end, end_opt, listed_reads}

-- what begins a setting of a statement, a mode, and a setting of a table
abbrev pub set_first : Kinds
set_first =
    kinds.exactly "optimize_use_projections" ∪ kinds.exactly "force_optimize_projection"
    ∪ kinds.exactly "mutations_sync"

abbrev pub mode_value_first : Kinds
mode_value_first = kinds.text_exactly "throw" ∪ kinds.text_exactly "drop" ∪ kinds.text_exactly "rebuild"

abbrev pub table_set_first : Kinds
table_set_first =
    kinds.exactly "index_granularity" ∪ kinds.exactly "lightweight_mutation_projection_mode"

module _ (n : ℕ) where
  -- 0 | 1
  pub flag_reads : Exactly (kinds.size 0 ∪ kinds.size 1) none false n rules.flag parsers.flag_at
  unfolding parsers.flag_at
  flag_reads =
      reads_as
      (or_reads (end (one_reads (is_number (λ m. m == 0)) no_value (kinds.size 0) zero_kind (number 0) refl n)
      (λ _. false))
      (end (one_reads (is_number (λ m. m == 1)) no_value (kinds.size 1) one_kind (number 1) refl n)
      (λ _. true))
      refl parsers.is_zero zero_kind)
      refl refl

  -- a setting of this name
  pub set_of_reads : (setting : String) → is_exact (codes setting) ≡ true → (meaning : Bool → SetWord)
      → Exactly (kinds.exactly setting) none false n (rules.set_of (codes setting) meaning)
      (parsers.set_of_at (codes setting) meaning)
  set_of_reads setting known meaning =
      seq (exactly_reads n setting known) (λ _. seq (sign_reads n Eq) (λ _. end flag_reads meaning) refl) refl

  -- set
  pub set_reads : Exactly set_first none false n rules.set parsers.set_at
  unfolding parsers.set_at
  set_reads =
      reads_as
      (or_reads (set_of_reads "optimize_use_projections" refl sets.UseProjections)
      (or_reads (set_of_reads "force_optimize_projection" refl sets.Force)
      (set_of_reads "mutations_sync" refl sets.Sync)
      refl _ (exactly_kind "force_optimize_projection" refl))
      refl _ (exactly_kind "optimize_use_projections" refl))
      refl refl

  -- sets
  pub set_list_reads : Exactly set_first
      (kinds.sign Comma) false n rules.set_list parsers.set_list_at
  unfolding parsers.set_list_at
  set_list_reads = reads_as (listed_reads set_reads refl refl) refl refl

  -- [SETTINGS sets]
  pub own_sets_reads : Exactly (kinds.keyword "SETTINGS") (kinds.keyword "SETTINGS" ∪ kinds.sign Comma) true n
      rules.own_sets parsers.own_sets_at
  unfolding parsers.own_sets_at
  own_sets_reads =
      reads_as (end_opt
      (optional_reads (seq (keyword_reads n "SETTINGS" refl) (λ _. set_list_reads) refl) _
      (keyword_kind "SETTINGS" refl)) or_empty)
      refl refl

  -- 'throw' | 'drop' | 'rebuild'
  pub mode_value_reads : Exactly
      mode_value_first none false n rules.mode_value parsers.mode_value_at
  unfolding parsers.mode_value_at
  mode_value_reads =
      reads_as
      (or_reads (end (text_exactly_reads n "throw" refl) (λ _. mode_words.Throw))
      (or_reads (end (text_exactly_reads n "drop" refl) (λ _. mode_words.Drop))
      (end (text_exactly_reads n "rebuild" refl) (λ _. mode_words.Rebuild)) refl _
      (text_exactly_kind "drop" refl))
      refl _ (text_exactly_kind "throw" refl))
      refl refl

  -- mode
  pub mode_reads : Exactly (kinds.exactly "lightweight_mutation_projection_mode") none false n rules.mode
      parsers.mode_at
  unfolding parsers.mode_at
  mode_reads =
      reads_as (seq (exactly_reads n "lightweight_mutation_projection_mode" refl)
      (λ _. seq (sign_reads n Eq) (λ _. mode_value_reads) refl) refl)
      refl refl

  -- index_granularity "=" number
  pub granularity_reads : Exactly (kinds.exactly "index_granularity") none false n rules.granularity
      parsers.granularity_at
  unfolding parsers.granularity_at
  granularity_reads =
      reads_as
      (seq (exactly_reads n "index_granularity" refl)
      (λ _. seq (sign_reads n Eq)
      (λ _. one_reads
      (is_number (λ m. nat_le 1 m && nat_le m 65536)) number_of kinds.granule granule_kind
      (number 1) refl n)
      refl)
      refl)
      refl refl

  -- tset
  pub table_set_reads : Exactly table_set_first none false n rules.table_set parsers.table_set_at
  unfolding parsers.table_set_at
  table_set_reads =
      reads_as
      (or_reads (end granularity_reads table_words.Granularity)
      (end mode_reads table_words.Mode) refl _ (exactly_kind "index_granularity" refl))
      refl refl
