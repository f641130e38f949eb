-- Script lines (docs/GRAMMAR.md, "Script lines").
use Rattle.std.specs.Prelude.{◌≡◌, ◌≢◌, ℕ, ◌+◌, ◌<◌, ◌≤◌, ◌⊎◌, Bool, true, false, ◌||◌, List, [], ◌∷◌}
use Rattle.std.specs.Prelude.{◌++◌, length, ◌==◌, if◌then◌else◌, Some, slice_get, Contains, codes}
use Rattle.pj_script.specs.declared.types.ScriptMode.{ScriptMode}
use Rattle.pj_script.specs.declared.types.ScriptMode.TheVariants.{Play}
use Rattle.pj_script.specs.declared.types.Act.{Act}
use Rattle.pj_script.specs.declared.types.Act.TheVariants.{Whole}
use Rattle.pj_script.specs.declared.types.ScriptLine.{ScriptLine}
use Rattle.pj_script.specs.declared.types.Script.{Script}
use Rattle.pj_script.specs.declared.lines.ScriptFault.{ScriptFault}
use Rattle.pj_script.specs.declared.lines.ScriptFault.TheVariants.{BadLine, NoMemory}
use Rattle.pj_lex.specs.Bytes.{is_blank, is_small, is_digit, AllAre, IsBlank}

-- the byte before the first piece
abbrev pub onto_first : ℕ → List (List ℕ) → List (List ℕ)
onto_first b [] = (b ∷ []) ∷ []
onto_first b (piece ∷ more) = (b ∷ piece) ∷ more

-- the pieces between line feeds; nothing behind the last line feed is no piece
abbrev pub pieces : List ℕ → List (List ℕ)
pieces [] = []
pieces (b ∷ bs) = if b == 10 then [] ∷ pieces bs else onto_first b (pieces bs)

-- blanks alone, or a comment: a `#` behind blanks
abbrev pub IsSkipped : List ℕ → Type 0
IsSkipped piece =
    IsBlank piece ⊎ ((blanks : List ℕ) × (more : List ℕ) × IsBlank blanks × (piece ≡ blanks ++ 35 ∷ more))

-- a small letter, a digit or `_`
abbrev pub is_name_byte : ℕ → Bool
is_name_byte b = is_small b || is_digit b || b == 95

-- 1 to 32 such bytes, the first a letter
abbrev pub IsName : List ℕ → Type 0
IsName [] = ⊥
IsName (b ∷ bs) = (is_small b ≡ true) × AllAre is_name_byte bs × (length bs < 32)

-- at least one byte, and no blank at either end
abbrev pub IsTrimmed : List ℕ → Type 0
IsTrimmed rest =
    ((b : ℕ) × (more : List ℕ) × (rest ≡ b ∷ more) × (is_blank b ≡ false))
    × ((prefix : List ℕ) × (b : ℕ) × (rest ≡ prefix ++ b ∷ []) × (is_blank b ≡ false))

-- `start` alone, or with a blank behind it
abbrev pub BeginsStart : List ℕ → Type 0
BeginsStart rest =
    (rest ≡ codes "start")
    ⊎ ((b : ℕ) × (more : List ℕ) × (is_blank b ≡ true) × (rest ≡ codes "start" ++ b ∷ more))

-- what a line's rest asks for
abbrev pub IsAct : List ℕ → Act → Type 0
IsAct rest (Whole body) = IsTrimmed rest × (rest ≢ codes "finish") × (BeginsStart rest → ⊥) × (body ≡ rest)

-- a piece that spells a name, a colon and an act
pub record SpellsAct (piece name : List ℕ) (act : Act) : Type 0 where
  pub before : List ℕ
  pub middle : List ℕ
  pub left : List ℕ
  pub rest : List ℕ
  pub right : List ℕ
  pub blanks : IsBlank before × IsBlank middle × IsBlank left × IsBlank right
  pub named : IsName name
  pub asks : IsAct rest act
  pub whole : piece ≡ before ++ (name ++ (middle ++ 58 ∷ (left ++ (rest ++ right))))

-- a name has its old number where it is known, and else the next one
abbrev pub Numbers : List (List ℕ) → List (List ℕ) → List ℕ → ℕ → Type 0
Numbers before after name number =
    ((slice_get before number ≡ Some name) × (after ≡ before))
    ⊎ ((Contains before name → ⊥) × (number ≡ length before) × (after ≡ before ++ name ∷ []))

-- how many sessions a script may name
abbrev pub names_limit : ScriptMode → ℕ
names_limit Play = 1

-- the piece of this number spells the line, which leads from the names before it to those after it
pub record SpellsLine (mode : ScriptMode) (at : ℕ) (before after : List (List ℕ)) (piece : List ℕ)
    (line : ScriptLine) : Type 0 where
  pub name : List ℕ
  pub spelled : SpellsAct piece name line.act
  pub numbered : Numbers before after name line.name
  pub few : length after ≤ names_limit mode
  pub counted : line.line ≡ at

-- the pieces, the first of this number, spell the lines in order, skipped ones aside
abbrev pub AreLines : ScriptMode → ℕ → List (List ℕ) → List (List ℕ) → List ScriptLine → List (List ℕ)
    → Type 0
AreLines mode at before [] lines after = (lines ≡ []) × (after ≡ before)
AreLines mode at before (piece ∷ more) lines after =
    (IsSkipped piece × AreLines mode (at + 1) before more lines after)
    ⊎ ((line : ScriptLine) × (others : List ScriptLine) × (now : List (List ℕ))
    × SpellsLine mode at before now piece line
    × (lines ≡ line ∷ others) × AreLines mode (at + 1) now more others after)

-- the bytes spell the script
abbrev pub IsScript : ScriptMode → List ℕ → Script → Type 0
IsScript mode bytes script = AreLines mode 1 [] (pieces bytes) script.lines script.names

-- the line of this number is the first that is neither skipped nor spells a line
pub record IsBadLine (mode : ScriptMode) (bytes : List ℕ) (number : ℕ) : Type 0 where
  pub prefix : List (List ℕ)
  pub piece : List ℕ
  pub back : List (List ℕ)
  pub parts : pieces bytes ≡ prefix ++ piece ∷ back
  pub counted : number ≡ length prefix + 1
  pub lines : List ScriptLine
  pub names : List (List ℕ)
  pub good : AreLines mode 1 [] prefix lines names
  pub not_skipped : IsSkipped piece → ⊥
  pub no_line : (line : ScriptLine) (now : List (List ℕ)) → SpellsLine mode number names now piece line → ⊥

-- a line that is refused is the first bad one; out of memory may come anywhere
abbrev pub HasLineCause : ScriptMode → List ℕ → ScriptFault → Type 0
HasLineCause mode bytes (BadLine number) = IsBadLine mode bytes number
HasLineCause mode bytes NoMemory = Unit {0}
