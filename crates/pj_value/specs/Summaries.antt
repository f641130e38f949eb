-- What a state keeps of a list of values in place of the list, and its bytes (docs/MODEL.md, "States").
use Rattle.std.specs.Prelude.{◌≡◌, ℕ, ◌<◌, ◌%◌, ◌^◌, List, [], ◌∷◌, ◌++◌, length, map, sum, fold, flat_map}
use Rattle.std.specs.Prelude.{Option, Some, None}
use Rattle.std.specs.List.{AllByRecursion}
use Rattle.std.specs.Int.{w64, to_le_bytes}
use Rattle.std.specs.declared.cmp.Ordering.TheVariants.{Less}
use Rattle.pj_value.specs.declared.value.Kind.{Kind}
use Rattle.pj_value.specs.declared.value.Kind.TheVariants as kinds
use Rattle.pj_value.specs.declared.value.Value.{Value}
use Rattle.pj_value.specs.declared.value.Value.TheVariants as values
use Rattle.pj_value.specs.declared.value.AggKind.{AggKind}
use Rattle.pj_value.specs.declared.value.AggKind.TheVariants as aggregates
use Rattle.pj_value.specs.Values.{kind_of, Fits}
use Rattle.pj_value.specs.Order.{value_cmp}
use Rattle.pj_value.specs.Aggregates.{number_in, default, has_value, lesser, greater}

-- a count or a total; the least or the greatest value, where there is one; or each value once, in their order
pub data Summary : Type 0 where
  Number : ℕ → Summary
  Extreme : Option Value → Summary
  Distinct : List Value → Summary

-- each value is less than the next
abbrev pub Rises : List Value → Type 0
Rises [] = Unit {0}
Rises (v ∷ []) = Unit {0}
Rises (v ∷ w ∷ vs) = (value_cmp v w ≡ Less) × Rises (w ∷ vs)

-- a value stands in one list exactly where it stands in the other
abbrev pub HaveSameValues : List Value → List Value → Type 0
HaveSameValues vs ws = (v : Value) → has_value v vs ≡ has_value v ws

-- the value that a choice of two leaves of all, where there is one
abbrev pub extreme_of : (Value → Value → Value) → List Value → Option Value
extreme_of choose [] = None
extreme_of choose (v ∷ vs) = Some (fold choose v vs)

-- the summary stands for the values under an aggregate
abbrev pub Stands : AggKind → Summary → List Value → Type 0
Stands aggregates.Count (Number n) vs = n ≡ length vs % 2 ^ 64
Stands aggregates.Count (Extreme found) vs = ⊥
Stands aggregates.Count (Distinct found) vs = ⊥
Stands aggregates.Sum (Number n) vs = n ≡ sum (map number_in vs) % 2 ^ 64
Stands aggregates.Sum (Extreme found) vs = ⊥
Stands aggregates.Sum (Distinct found) vs = ⊥
Stands aggregates.Min (Number n) vs = ⊥
Stands aggregates.Min (Extreme found) vs = found ≡ extreme_of lesser vs
Stands aggregates.Min (Distinct found) vs = ⊥
Stands aggregates.Max (Number n) vs = ⊥
Stands aggregates.Max (Extreme found) vs = found ≡ extreme_of greater vs
Stands aggregates.Max (Distinct found) vs = ⊥
Stands aggregates.UniqExact (Number n) vs = ⊥
Stands aggregates.UniqExact (Extreme found) vs = ⊥
Stands aggregates.UniqExact (Distinct found) vs = Rises found × HaveSameValues found vs

-- the aggregate of the values that a summary stands for, which are of this kind
abbrev pub finished : Kind → Summary → Value
finished kind (Number n) = values.Num n
finished kind (Extreme None) = default kind
finished kind (Extreme (Some v)) = v
finished kind (Distinct found) = values.Num (length found % 2 ^ 64)

-- a value of this kind that code can hold
abbrev pub IsOfKind : Kind → Value → Type 0
IsOfKind kind v = (kind_of v ≡ kind) × Fits v

-- a summary of values of a kind that code can hold
abbrev pub IsSummary : AggKind → Kind → Summary → Type 0
IsSummary aggregates.Count kind (Number n) = n < 18446744073709551616
IsSummary aggregates.Count kind (Extreme found) = ⊥
IsSummary aggregates.Count kind (Distinct found) = ⊥
IsSummary aggregates.Sum kind (Number n) = (n < 18446744073709551616) × (kind ≡ kinds.Num)
IsSummary aggregates.Sum kind (Extreme found) = ⊥
IsSummary aggregates.Sum kind (Distinct found) = ⊥
IsSummary aggregates.Min kind (Number n) = ⊥
IsSummary aggregates.Min kind (Extreme None) = Unit {0}
IsSummary aggregates.Min kind (Extreme (Some v)) = IsOfKind kind v
IsSummary aggregates.Min kind (Distinct found) = ⊥
IsSummary aggregates.Max kind (Number n) = ⊥
IsSummary aggregates.Max kind (Extreme None) = Unit {0}
IsSummary aggregates.Max kind (Extreme (Some v)) = IsOfKind kind v
IsSummary aggregates.Max kind (Distinct found) = ⊥
IsSummary aggregates.UniqExact kind (Number n) = ⊥
IsSummary aggregates.UniqExact kind (Extreme found) = ⊥
IsSummary aggregates.UniqExact kind (Distinct found) = Rises found × AllByRecursion (IsOfKind kind) found

-- ---- bytes

-- the eight bytes of a number, the lowest first
abbrev pub number_bytes : ℕ → List ℕ
number_bytes n = to_le_bytes w64 n

-- a value among distinct ones: a number, or the length of a text and its bytes
abbrev pub value_bytes : Value → List ℕ
value_bytes (values.Num n) = number_bytes n
value_bytes (values.Text t) = number_bytes (length t) ++ t

-- no value, or a number, or a text to the end
abbrev pub extreme_bytes : Option Value → List ℕ
extreme_bytes None = 0 ∷ []
extreme_bytes (Some (values.Num n)) = 1 ∷ number_bytes n
extreme_bytes (Some (values.Text t)) = 1 ∷ t

-- the bytes of a state that keeps this
abbrev pub state_bytes : Summary → List ℕ
state_bytes (Number n) = number_bytes n
state_bytes (Extreme found) = extreme_bytes found
state_bytes (Distinct found) = number_bytes (length found) ++ flat_map value_bytes found
