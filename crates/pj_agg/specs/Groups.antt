-- Values that are added to groups by the numbers of these.
use Rattle.std.specs.Prelude.{ℕ, suc, ◌==◌, ◌-◌, List, [], ◌∷◌, ◌++◌, length, replicate, if◌then◌else◌}

-- of values, each with the number of its group, those of one group in their order
abbrev pub values_of_group : {X : Type 0} → ℕ → List ℕ → List X → List X
values_of_group group [] values = []
values_of_group group (n ∷ numbers) [] = []
values_of_group group (n ∷ numbers) (v ∷ values) =
    if n == group then v ∷ values_of_group group numbers values else values_of_group group numbers values

-- groups that are numbered from here on, each with its values behind those that it has
abbrev pub added_from : {X : Type 0} → ℕ → List (List X) → List ℕ → List X → List (List X)
added_from first [] numbers values = []
added_from first (g ∷ groups) numbers values =
    (g ++ values_of_group first numbers values) ∷ added_from (suc first) groups numbers values

-- groups that are numbered from 0, each with its values behind those that it has
abbrev pub added : {X : Type 0} → List (List X) → List ℕ → List X → List (List X)
added groups numbers values = added_from 0 groups numbers values

-- the groups, and as many without values behind them as make this many
abbrev pub grown : {X : Type 0} → List (List X) → ℕ → List (List X)
grown groups len = groups ++ replicate (len - length groups) []
