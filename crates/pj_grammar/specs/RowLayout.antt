-- How the rows of an INSERT are laid out: all their values in one list, and where each row ends in it.
-- Of public contracts those of `RowsSoFar` alone cite it.
use Rattle.std.specs.Prelude.{ℕ, zero, suc, ◌≤◌, List, [], ◌∷◌, get_or, slice_range}
use Rattle.pj_value.specs.declared.value.Value.{Value}

-- rows, and the values of one that has begun behind them
pub record WithBegun : Type 0 where
  pub whole : List (List Value)
  pub begun : List Value

-- the rows from an index of the values on, by where they end
abbrev pub rows_from : {A : Type 0} → List A → ℕ → List ℕ → List (List A)
rows_from values from [] = []
rows_from values from (end ∷ ends) = slice_range values from end ∷ rows_from values end ends

-- where the last of these rows ends
abbrev pub last_end : ℕ → List ℕ → ℕ
last_end from [] = from
last_end from (end ∷ ends) = last_end end ends

-- the ends never fall from an index on, and none lies behind so many values
abbrev pub AreEnds : ℕ → List ℕ → ℕ → Type 0
AreEnds from [] len = from ≤ len
AreEnds from (end ∷ ends) len = (from ≤ end) × AreEnds end ends len

-- where the row at an index begins, which is where the one before it ends
abbrev pub begin_at : ℕ → List ℕ → ℕ → ℕ
begin_at from ends zero = from
begin_at from ends (suc at) = get_or ends at 0
