-- What the arguments of the program ask for (docs/FORMATS.md, "Arguments"), by what `clap` makes of them.
use Rattle.std.specs.Prelude.{ℕ, Bool, true, false, List, [], ◌∷◌, Option, Some, None, codes}
use Rattle.std.specs.Prelude.{◌||◌, not, is_some}
use Rattle.std.specs.Str.{bytes_eq}
use Rattle.std.specs.Option.{option_map_or}
use Rattle.clap.specs.Simple.{on_top}
use Rattle.clap.specs.Words.{App, Kinds, Row, Rule, fault_of, matches_of, new_app, new_rule}
use Rattle.clap.specs.Words.{one_of, with_rule}
use Rattle.clap.specs.declared.builder.action.ArgAction.TheVariants.{SetTrue}
use Rattle.clap.specs.declared.error.kind.ErrorKind.TheVariants as kinds
use Rattle.pj_words.specs.declared.about.About.{About}
use Rattle.pj_words.specs.declared.about.About.TheVariants as abouts

-- the flag `--history`
abbrev pub history_flag : Rule
history_flag = record (new_rule (codes "history")) { long = Some (codes "history"); action = Some SetTrue }

-- the command `projplay`, which has a version and that one flag
abbrev pub app : App
app = with_rule (on_top (λ s. record s { has_version = true }) (new_app (codes "projplay"))) history_flag

-- the flag stands among the arguments of which these are the matches
abbrev pub is_set : List Row → Bool
is_set rows = option_map_or (λ value. bytes_eq value (codes "true")) (one_of (codes "history") rows) false

-- whether the history is wanted, where no kind of error refuses the arguments
abbrev pub wish_by : Kinds → List Row → Option Bool
wish_by [] rows = Some (is_set rows)
wish_by (kind ∷ others) rows = None

-- whether the arguments, the program's name first, want the text of the history; none where they aren't taken
unfoldable pub wish_of : List (List ℕ) → Option Bool
wish_of arguments = wish_by (fault_of app arguments) (matches_of app arguments)

-- what a parse asks for that ends with these kinds
abbrev pub about_by : Kinds → Option About
about_by (kinds.DisplayHelp ∷ others) = Some abouts.Help
about_by (kinds.DisplayVersion ∷ others) = Some abouts.Version
about_by _ = None

-- what the arguments ask the program to say of itself
unfoldable pub about_of : List (List ℕ) → Option About
about_of arguments = about_by (fault_of app arguments)

-- whether the arguments aren't taken, and don't ask about the program
abbrev pub is_refused : List (List ℕ) → Bool
is_refused arguments = not (is_some (wish_of arguments) || is_some (about_of arguments))
