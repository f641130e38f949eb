-- How settings are read. Of public contracts those of `pj_phrase` and
-- `pj_sentence` alone cite it.
use Rattle.std.specs.Prelude.{ℕ, Bool, true, false, ◌&&◌, List, nat_le, ◌==◌, codes}
use Rattle.pj_lex.specs.declared.token.Symbol.TheVariants.{Eq}
use Rattle.pj_grammar.specs.declared.types.SetWord.{SetWord}
use Rattle.pj_grammar.specs.declared.types.SetWord.TheVariants as sets
use Rattle.pj_grammar.specs.declared.types.ModeWord.{ModeWord}
use Rattle.pj_grammar.specs.declared.types.ModeWord.TheVariants as modes
use Rattle.pj_grammar.specs.declared.types.TableWord.{TableWord}
use Rattle.pj_grammar.specs.declared.types.TableWord.TheVariants as table_words
use Rattle.pj_grammar.specs.Lexemes.{Lexeme, no_value, is_number, is_keyword, is_exactly, is_text_exactly}
use Rattle.pj_grammar.specs.grammar.Words.{or_empty}
use Rattle.pj_grammar.specs.parsing.Parser.{Parser, ◌>>=◌, one_at, nothing_at, or_at, optional_at}
use Rattle.pj_grammar.specs.parsing.Words.{keyword_at, exactly_at, sign_at, number_that_at, text_exactly_at}
use Rattle.pj_grammar.specs.parsing.Words.{means_at, behind_at, listed_at}

-- the number 0
abbrev pub is_zero : Lexeme → Bool
is_zero = is_number (λ n. n == 0)

-- 0 or 1
unfoldable pub flag_at : Parser Bool
flag_at =
    or_at is_zero (means_at (one_at is_zero no_value) false)
    (means_at (one_at (is_number (λ n. n == 1)) no_value) true)

-- a setting of this name, by its value
abbrev pub flag_of_at : List ℕ → Parser Bool
flag_of_at setting = do
  _ ← exactly_at setting
  _ ← sign_at Eq
  flag_at

-- a setting of this name, as what its value means
abbrev pub set_of_at : List ℕ → (Bool → SetWord) → Parser SetWord
set_of_at setting meaning = do
  _ ← exactly_at setting
  _ ← sign_at Eq
  value ← flag_at
  nothing_at (meaning value)

-- set
unfoldable pub set_at : Parser SetWord
set_at =
    or_at (is_exactly (codes "optimize_use_projections"))
    (set_of_at (codes "optimize_use_projections") sets.UseProjections)
    (or_at (is_exactly (codes "force_optimize_projection"))
    (set_of_at (codes "force_optimize_projection") sets.Force)
    (set_of_at (codes "mutations_sync") sets.Sync))

-- sets
unfoldable pub set_list_at : Parser (List SetWord)
set_list_at = listed_at set_at

-- [SETTINGS sets]
unfoldable pub own_sets_at : Parser (List SetWord)
own_sets_at = do
  list ← optional_at (is_keyword (codes "SETTINGS")) (behind_at (keyword_at (codes "SETTINGS")) set_list_at)
  nothing_at (or_empty list)

-- 'throw' | 'drop' | 'rebuild'
unfoldable pub mode_value_at : Parser ModeWord
mode_value_at =
    or_at (is_text_exactly (codes "throw")) (means_at (text_exactly_at (codes "throw")) modes.Throw)
    (or_at (is_text_exactly (codes "drop")) (means_at (text_exactly_at (codes "drop")) modes.Drop)
    (means_at (text_exactly_at (codes "rebuild")) modes.Rebuild))

-- mode
unfoldable pub mode_at : Parser ModeWord
mode_at = do
  _ ← exactly_at (codes "lightweight_mutation_projection_mode")
  _ ← sign_at Eq
  mode_value_at

-- index_granularity "=" number from 1 to 65536
unfoldable pub granularity_at : Parser ℕ
granularity_at = do
  _ ← exactly_at (codes "index_granularity")
  _ ← sign_at Eq
  number_that_at (λ n. nat_le 1 n && nat_le n 65536)

-- tset
unfoldable pub table_set_at : Parser TableWord
table_set_at =
    or_at (is_exactly (codes "index_granularity"))
    (granularity_at >>= λ n. nothing_at (table_words.Granularity n))
    (mode_at >>= λ m. nothing_at (table_words.Mode m))
