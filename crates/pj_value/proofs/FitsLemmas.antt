-- Values that are held fit.
use Rattle.std.proofs.Common.{ℕ, zero, suc, ◌+◌, ◌<◌, List, [], ◌∷◌, length, get_or, map, arith}
use Rattle.std.specs.List.{All, AllByRecursion, range_with_len}
use Rattle.std.proofs.lemmas.List.Elements.{All-map, All-weaker, recursion_from_All}
use Rattle.pj_value.specs.declared.value.Value.{Value}
use Rattle.pj_value.specs.declared.value.Value.TheVariants as values
use Rattle.pj_value.specs.Values.{Fits}
use Rattle.pj_value.specs.NumberBytes.{AreBytes}
use Rattle.pj_value.specs.Columns.{KindedValues, values_of, row_at, rows_of}

-- ---- the values of a column

Fits-numbers : (ns : List ℕ) → AllByRecursion (λ n. n < 18446744073709551616) ns
    → AllByRecursion Fits (map (λ n. values.Num n) ns)
Fits-numbers [] a = tt
Fits-numbers (n ∷ ns) a = (a.0, Fits-numbers ns a.1)

Fits-texts : (ts : List (List ℕ)) → AllByRecursion AreBytes ts
    → AllByRecursion Fits (map (λ t. values.Text t) ts)
Fits-texts [] a = tt
Fits-texts (t ∷ ts) a = (a.0, Fits-texts ts a.1)

-- numbers of 64 bits
pub Fits-from_numbers : (ns : List ℕ) → All (λ n. n < 18446744073709551616) ns
    → AllByRecursion Fits (map (λ n. values.Num n) ns)
Fits-from_numbers ns a = Fits-numbers ns (recursion_from_All (λ n. n < 18446744073709551616) ns a)

-- texts of bytes
pub Fits-from_texts : (ts : List (List ℕ)) → All AreBytes ts
    → AllByRecursion Fits (map (λ t. values.Text t) ts)
Fits-from_texts ts a = Fits-texts ts (recursion_from_All AreBytes ts a)

-- texts at some indexes are of bytes where all are
pub AreBytes-at : (ts : List (List ℕ)) (ps : List ℕ) → All AreBytes ts → All (λ at. at < length ts) ps
    → All AreBytes (map (λ at. get_or ts at []) ps)
AreBytes-at ts ps a b =
    All-map AreBytes (λ at. get_or ts at []) ps
    (All-weaker (λ at. at < length ts) (λ at. AreBytes (get_or ts at [])) (λ at l. a at [] l) ps b)

-- ---- the rows of columns

-- a value that is read
Fits-in : (vs : List Value) (at : ℕ) → AllByRecursion Fits vs → Fits (get_or vs at (values.Num 0))
Fits-in [] at a = omega arith
Fits-in (v ∷ vs) zero a = a.0
Fits-in (v ∷ vs) (suc at) a = Fits-in vs at a.1

Fits-row_at : (cs : List KindedValues) (at : ℕ) → AllByRecursion (λ c. AllByRecursion Fits c.values) cs
    → AllByRecursion Fits (row_at (values_of cs) at)
Fits-row_at [] at a = tt
Fits-row_at (c ∷ cs) at a = (Fits-in c.values at a.0, Fits-row_at cs at a.1)

-- the rows of columns whose values fit
pub Fits-rows_of : (cs : List KindedValues) (n : ℕ) → All (λ c. AllByRecursion Fits c.values) cs
    → AllByRecursion (λ row. AllByRecursion Fits row) (rows_of (values_of cs) n)
Fits-rows_of cs n a = from 0 n
  where
    each : AllByRecursion (λ (c : KindedValues). AllByRecursion Fits c.values) cs
    each = recursion_from_All (λ (c : KindedValues). AllByRecursion Fits c.values) cs a

    from : (at m : ℕ)
        → AllByRecursion (λ row. AllByRecursion Fits row) (map (row_at (values_of cs)) (range_with_len at m))
    from at zero = tt
    from at (suc m) = (Fits-row_at cs at each, from (at + 1) m)
