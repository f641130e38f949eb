-- The names of parts (docs/MODEL.md, "Parts").
use Rattle.std.specs.Prelude.{ℕ, zero, suc, List, [], ◌++◌, codes, decimal}

-- a number of a name, behind the sign that parts it from what stands before
abbrev pub name_end : ℕ → List ℕ
name_end number = codes "_" ++ decimal number

-- the number of the last mutation, where there was one
abbrev pub field_end : ℕ → List ℕ
field_end zero = []
field_end (suc n) = name_end (suc n)

-- the name of a part, by the blocks that it covers, its level and its field
abbrev pub name_text : ℕ → ℕ → ℕ → ℕ → List ℕ
name_text min max level field =
    codes "all" ++ name_end min ++ name_end max ++ name_end level ++ field_end field
