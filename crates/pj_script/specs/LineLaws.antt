-- Laws of script lines (docs/GRAMMAR.md, "Script lines").
use Rattle.std.specs.Prelude.{◌≡◌, ℕ, ◌<◌, ◌≤◌, ◌⊎◌, List, [], ◌∷◌, length}
use Rattle.std.specs.List.{AllByRecursion}
use Rattle.pj_script.specs.declared.types.ScriptMode.{ScriptMode}
use Rattle.pj_script.specs.declared.types.ScriptLine.{ScriptLine}
use Rattle.pj_script.specs.declared.types.Script.{Script}
use Rattle.pj_script.specs.Lines.{names_limit, IsScript, IsBadLine}

-- bytes spell one script at most
abbrev pub OneReading : Type 0
OneReading =
    (mode : ScriptMode) (bytes : List ℕ) (a b : Script) → IsScript mode bytes a → IsScript mode bytes b
    → a ≡ b

-- bytes spell a script, or have a bad line
abbrev pub ScriptOrBadLine : Type 0
ScriptOrBadLine =
    (mode : ScriptMode) (bytes : List ℕ)
    → ((script : Script) × IsScript mode bytes script) ⊎ ((line : ℕ) × IsBadLine mode bytes line)

-- bytes with a bad line spell no script
abbrev pub NoScriptWithABadLine : Type 0
NoScriptWithABadLine =
    (mode : ScriptMode) (bytes : List ℕ) (script : Script) (number : ℕ) → IsScript mode bytes script
    → IsBadLine mode bytes number → ⊥

-- bytes have one first bad line at most
abbrev pub OneBadLine : Type 0
OneBadLine =
    (mode : ScriptMode) (bytes : List ℕ) (m n : ℕ) → IsBadLine mode bytes m → IsBadLine mode bytes n → m ≡ n

-- the numbers of the lines rise, and all are above this one
abbrev pub RisesFrom : ℕ → List ScriptLine → Type 0
RisesFrom low [] = Unit {0}
RisesFrom low (line ∷ lines) = (low < line.line) × RisesFrom line.line lines

-- the lines of a script rise, each has a name of the script, and the names are no more than the mode lets it
-- have
abbrev pub LinesRise : Type 0
LinesRise = (mode : ScriptMode) (bytes : List ℕ) (script : Script) → IsScript mode bytes script
    → RisesFrom 0 script.lines × AllByRecursion (λ line. line.name < length script.names) script.lines
    × (length script.names ≤ names_limit mode)
