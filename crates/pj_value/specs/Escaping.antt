-- How a text is written in a text line of output (docs/FORMATS.md, "Values in rows"), and how one is read.
use Rattle.std.specs.Prelude.{◌≡◌, ◌≢◌, ℕ, ◌+◌, ◌<◌, List, [], ◌∷◌, ◌==◌, if◌then◌else◌, codes, length, take}
use Rattle.std.specs.Prelude.{drop, slice_index}
use Rattle.std.specs.Prelude.{Bool, Option, Some, None}
use Rattle.std.specs.List.{AllZip, concat, flat_map}

-- a backslash, a tab, a line feed, a carriage return and a zero byte are written with a backslash
-- and a letter, other bytes stay
abbrev pub escaped_byte : ℕ → List ℕ
escaped_byte b =
    if b == 92 then codes "\\\\"
    else (if b == 9 then codes "\\t"
    else (if b == 10 then codes "\\n"
    else (if b == 13 then codes "\\r"
    else (if b == 0 then codes "\\0" else b ∷ []))))

-- whether a byte is written as it is
abbrev pub is_plain : ℕ → Bool
is_plain b = length (escaped_byte b) == 1

-- a text as it is written
abbrev pub escaped : List ℕ → List ℕ
escaped text = flat_map escaped_byte text

-- the byte that a letter behind a backslash stands for
abbrev pub meaning : ℕ → Option ℕ
meaning l =
    if l == 92 then Some 92
    else (if l == 39 then Some 39
    else (if l == 116 then Some 9
    else (if l == 110 then Some 10
    else (if l == 114 then Some 13
    else (if l == 48 then Some 0 else None)))))

-- a byte is spelled by itself where it is no backslash, or by a backslash and a letter that stands for it
pub data IsSpelling : List ℕ → ℕ → Type 0 where
  itself : (b : ℕ) → b ≢ 92 → IsSpelling (b ∷ []) b
  behind_a_backslash : (l b : ℕ) → meaning l ≡ Some b → IsSpelling (92 ∷ l ∷ []) b

-- the bytes of the text are spelled one after the other
pub record Spells (written text : List ℕ) : Type 0 where
  pub pieces : List (List ℕ)
  pub joined : concat pieces ≡ written
  pub each : AllZip IsSpelling pieces text

-- no letter stands first that a backslash may have behind it
abbrev pub HasNoLetter : List ℕ → Type 0
HasNoLetter [] = Unit {0}
HasNoLetter (l ∷ ls) = meaning l ≡ None

-- what stands before this offset spells a text, and at it is a backslash with no letter behind it
pub record IsBadEscape (written : List ℕ) (at : ℕ) : Type 0 where
  pub inside : at < length written
  pub before : (text : List ℕ) × Spells (take at written) text
  pub backslash : slice_index written at ≡ 92
  pub letter : HasNoLetter (drop (at + 1) written)
