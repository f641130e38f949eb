-- Laws of texts that are written and read (docs/FORMATS.md, "Values in rows").
use Rattle.std.specs.Prelude.{◌≡◌, ℕ, List, ◌⊎◌}
use Rattle.pj_value.specs.Escaping.{escaped, Spells, IsBadEscape}

-- a text as it is written spells this text, and no other
abbrev pub EscapedIsRead : Type 0
EscapedIsRead =
    (text : List ℕ) → Spells (escaped text) text
    × ((other : List ℕ) → Spells (escaped text) other → other ≡ text)

-- bytes spell one text at most
abbrev pub OneText : Type 0
OneText = (written s t : List ℕ) → Spells written s → Spells written t → s ≡ t

-- bytes with a bad escape spell no text
abbrev pub NoTextWithABadEscape : Type 0
NoTextWithABadEscape = (written text : List ℕ) (at : ℕ) → Spells written text → IsBadEscape written at → ⊥

-- bytes have one first bad escape at most
abbrev pub OneBadEscape : Type 0
OneBadEscape = (written : List ℕ) (a b : ℕ) → IsBadEscape written a → IsBadEscape written b → a ≡ b

-- bytes spell a text, or have a bad escape
abbrev pub TextOrBadEscape : Type 0
TextOrBadEscape =
    (written : List ℕ) → ((text : List ℕ) × Spells written text) ⊎ ((at : ℕ) × IsBadEscape written at)
