-- Numbers and their bytes, the lowest first (docs/MODEL.md, "States").
use Rattle.std.specs.Prelude.{◌≡◌, ℕ, ◌+◌, ◌*◌, ◌^◌, ◌<◌, List, [], ◌∷◌, length}
use Rattle.std.specs.List.{AllByRecursion}
use Rattle.std.specs.Int.{bytes_low_first}

-- each of them is a byte
abbrev pub AreBytes : List ℕ → Type 0
AreBytes bytes = AllByRecursion (λ b. b < 256) bytes

-- the number that bytes are: the first of them, and 256 times that of the rest
abbrev pub number_in_bytes : List ℕ → ℕ
number_in_bytes [] = 0
number_in_bytes (b ∷ bs) = b + 256 * number_in_bytes bs

-- bytes are the bytes of their number, which is below 256 to the power of their length
abbrev pub BytesAreOfTheirNumber : Type 0
BytesAreOfTheirNumber =
    (bytes : List ℕ) → AreBytes bytes
    → (bytes_low_first 0 (length bytes) (number_in_bytes bytes) ≡ bytes)
    × (number_in_bytes bytes < 256 ^ length bytes)

-- a number has as many bytes as are asked for, and where it is below 256 to the power of their length, it is
-- the number that they are
abbrev pub NumbersAreOfTheirBytes : Type 0
NumbersAreOfTheirBytes =
    (k n : ℕ) → (length (bytes_low_first 0 k n) ≡ k) × AreBytes (bytes_low_first 0 k n)
    × (n < 256 ^ k → number_in_bytes (bytes_low_first 0 k n) ≡ n)
