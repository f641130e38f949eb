-- How a `Text` is laid out. No public contract cites this file.
use Rattle.std.specs.Prelude.{ℕ, ◌≤◌, List, take}
use Rattle.pj_value.specs.declared.text.Bytes.{Bytes}
use Rattle.pj_value.specs.declared.text.Bytes.TheVariants as bytes

-- the bytes
abbrev pub bytes_in : Bytes → List ℕ
bytes_in (bytes.Few len held) = take len held
bytes_in (bytes.Many held) = held.items

-- no more of them than there is room for
abbrev pub IsWithin : Bytes → Type 0
IsWithin (bytes.Few len held) = len ≤ 23
IsWithin (bytes.Many held) = Unit {0}
