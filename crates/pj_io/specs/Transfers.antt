-- What a whole transfer moved, where the bytes are told.
use Rattle.std.specs.Prelude.{◌≡◌, ℕ, ◌+◌, ◌<◌, ◌≤◌, List, Option, length, take}
use Rattle.std.specs.Io.KnownBytes.{Appends, Consumes}

-- a proper prefix of the bytes was appended
abbrev pub AppendsPart : Option (List ℕ) → Option (List ℕ) → List ℕ → Type 0
AppendsPart old new bytes = (count : ℕ) × (count < length bytes) × Appends old new (take count bytes)

-- one byte past the limit was taken
abbrev pub TookTooMuch : ℕ → Option (List ℕ) → Option (List ℕ) → Type 0
TookTooMuch limit old new = (bytes : List ℕ) × (length bytes ≡ limit + 1) × Consumes old new bytes

-- as many bytes as the limit allows were taken, or fewer
abbrev pub TookAtMost : ℕ → Option (List ℕ) → Option (List ℕ) → Type 0
TookAtMost limit old new = (bytes : List ℕ) × (length bytes ≤ limit) × Consumes old new bytes
