-- Where bytes are damaged as a granule (docs/FORMATS.md, "Damage").
use Rattle.std.specs.Prelude.{ℕ, zero, suc, ◌*◌, ◌==◌, ◌&&◌, nat_le, Bool, true, false, not, if◌then◌else◌}
use Rattle.std.specs.Prelude.{Option, Some, None, List, [], ◌∷◌, drop, length, take}
use Rattle.pj_value.specs.declared.value.Kind.{Kind}
use Rattle.pj_value.specs.declared.value.Kind.TheVariants as kinds
use Rattle.pj_value.specs.NumberBytes.{number_in_bytes}
use Rattle.pj_layout.specs.Granules.{tag_of}

-- the first byte is the tag of the kind
abbrev pub has_tag : Kind → List ℕ → Bool
has_tag kind [] = false
has_tag kind (b ∷ bytes) = b == tag_of kind

-- behind the first byte four more are the number of rows
abbrev pub has_rows : ℕ → List ℕ → Bool
has_rows rows bytes = nat_le 5 (length bytes) && (number_in_bytes (take 4 (drop 1 bytes)) == rows)

-- the first numbers, so many, of eight bytes each
abbrev pub numbers_in : ℕ → List ℕ → List ℕ
numbers_in zero bytes = []
numbers_in (suc k) bytes = number_in_bytes (take 8 bytes) ∷ numbers_in k (drop 8 bytes)

-- none of the numbers is less than the one before
abbrev pub never_fall : List ℕ → Bool
never_fall [] = true
never_fall (m ∷ []) = true
never_fall (m ∷ n ∷ ns) = nat_le m n && never_fall (n ∷ ns)

-- the last of some ends, and here where there is none
abbrev pub last_end : ℕ → List ℕ → ℕ
last_end here [] = here
last_end here (end ∷ ends) = last_end end ends

-- texts of so many bytes may have these ends: they never fall, and the last is how many bytes there are
abbrev pub are_ends : List ℕ → ℕ → Bool
are_ends ends len = never_fall ends && (last_end 0 ends == len)

-- the bytes behind the number of rows are those of so many values
abbrev pub are_values : Kind → ℕ → List ℕ → Bool
are_values kinds.Num rows bytes = length bytes == 8 * rows
are_values kinds.Text rows bytes =
    nat_le (8 * rows) (length bytes) && are_ends (numbers_in rows bytes) (length (drop (8 * rows) bytes))

-- a granule has so many values
abbrev pub is_granularity : ℕ → Bool
is_granularity rows = nat_le 1 rows && nat_le rows 65536

-- the offset at which bytes are damaged as a granule of so many values of a kind, where they are
abbrev pub damage : Kind → ℕ → List ℕ → Option ℕ
damage kind rows bytes =
    if not (has_tag kind bytes) then Some 0
    else (if not (has_rows rows bytes) then Some 1
    else (if not (is_granularity rows && are_values kind rows (drop 5 bytes)) then Some 5
    else None))
