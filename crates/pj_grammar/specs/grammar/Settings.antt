-- Settings of the grammar (docs/GRAMMAR.md, "Statements").
use Rattle.std.specs.Prelude.{ℕ, Bool, true, false, ◌&&◌, List, nat_le, ◌==◌, codes}
use Rattle.pj_lex.specs.declared.token.Symbol.TheVariants.{Eq}
use Rattle.pj_grammar.specs.declared.types.SetWord.{SetWord}
use Rattle.pj_grammar.specs.declared.types.SetWord.TheVariants as sets
use Rattle.pj_grammar.specs.declared.types.ModeWord.{ModeWord}
use Rattle.pj_grammar.specs.declared.types.ModeWord.TheVariants as modes
use Rattle.pj_grammar.specs.declared.types.TableWord.{TableWord}
use Rattle.pj_grammar.specs.declared.types.TableWord.TheVariants as table_words
use Rattle.pj_grammar.specs.Lexemes.{no_value, is_number}
use Rattle.pj_grammar.specs.grammar.Ebnf.{Grammar, One, Nothing, ◌>>=◌, ◌or◌, optional}
use Rattle.pj_grammar.specs.grammar.Words.{keyword, exactly, sign, number_that, text_exactly, means, behind}
use Rattle.pj_grammar.specs.grammar.Words.{listed, or_empty}

-- 0 | 1
abbrev pub flag : Grammar Bool
flag =
    (means (One (is_number (λ n. n == 0)) no_value) false) or
    (means (One (is_number (λ n. n == 1)) no_value) true)

-- a setting of this name, as what its value means
abbrev pub set_of : List ℕ → (Bool → SetWord) → Grammar SetWord
set_of setting meaning = do
  _ ← exactly setting
  _ ← sign Eq
  value ← flag
  Nothing (meaning value)

-- set = (optimize_use_projections | force_optimize_projection | mutations_sync) "=" (0 | 1)
abbrev pub set : Grammar SetWord
set =
    set_of (codes "optimize_use_projections") sets.UseProjections
    or (set_of (codes "force_optimize_projection") sets.Force or set_of (codes "mutations_sync") sets.Sync)

-- sets = set {"," set}
abbrev pub set_list : Grammar (List SetWord)
set_list = listed set

-- [SETTINGS sets]
abbrev pub own_sets : Grammar (List SetWord)
own_sets = do
  list ← optional (behind (keyword (codes "SETTINGS")) set_list)
  Nothing (or_empty list)

-- 'throw' | 'drop' | 'rebuild'
abbrev pub mode_value : Grammar ModeWord
mode_value =
    means (text_exactly (codes "throw")) modes.Throw
    or (means (text_exactly (codes "drop")) modes.Drop or means
    (text_exactly (codes "rebuild")) modes.Rebuild)

-- mode = lightweight_mutation_projection_mode "=" ('throw' | 'drop' | 'rebuild')
abbrev pub mode : Grammar ModeWord
mode = do
  _ ← exactly (codes "lightweight_mutation_projection_mode")
  _ ← sign Eq
  mode_value

-- index_granularity "=" number from 1 to 65536
abbrev pub granularity : Grammar ℕ
granularity = do
  _ ← exactly (codes "index_granularity")
  _ ← sign Eq
  number_that (λ n. nat_le 1 n && nat_le n 65536)

-- tset = index_granularity "=" number | mode
abbrev pub table_set : Grammar TableWord
table_set =
    (do
      n ← granularity
      Nothing (table_words.Granularity n))
    or (do
      m ← mode
      Nothing (table_words.Mode m))
