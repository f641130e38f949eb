-- What an aggregate function makes of a list of values (docs/MODEL.md, "Aggregates").
use Rattle.std.specs.Prelude.{ℕ, ◌%◌, ◌^◌, Bool, false, ◌||◌, List, [], ◌∷◌, length, map, sum}
use Rattle.std.specs.Prelude.{if◌then◌else◌, fold}
use Rattle.std.specs.Ordering.{is_lt, is_eq}
use Rattle.pj_value.specs.declared.value.Kind.{Kind}
use Rattle.pj_value.specs.declared.value.Kind.TheVariants as kinds
use Rattle.pj_value.specs.declared.value.Value.{Value}
use Rattle.pj_value.specs.declared.value.Value.TheVariants as values
use Rattle.pj_value.specs.declared.value.AggKind.{AggKind}
use Rattle.pj_value.specs.declared.value.AggKind.TheVariants as aggregates
use Rattle.pj_value.specs.Order.{value_cmp}

-- the number that a value is, 0 for a text
abbrev pub number_in : Value → ℕ
number_in (values.Num n) = n
number_in (values.Text t) = 0

-- the value of a kind where there is none
abbrev pub default : Kind → Value
default kinds.Num = values.Num 0
default kinds.Text = values.Text []

-- the two values are the same
abbrev pub same_value : Value → Value → Bool
same_value a b = is_eq (value_cmp a b)

-- the value is in the list
abbrev pub has_value : Value → List Value → Bool
has_value value [] = false
has_value value (v ∷ vs) = same_value value v || has_value value vs

-- each value once
abbrev pub distinct : List Value → List Value
distinct [] = []
distinct (v ∷ vs) = if has_value v vs then distinct vs else v ∷ distinct vs

-- the lesser of two values
abbrev pub lesser : Value → Value → Value
lesser a b = if is_lt (value_cmp b a) then b else a

-- the greater of two values
abbrev pub greater : Value → Value → Value
greater a b = if is_lt (value_cmp a b) then b else a

-- the least of values, and the default of their kind where there is none
abbrev pub least : Kind → List Value → Value
least kind [] = default kind
least kind (v ∷ vs) = fold lesser v vs

-- the greatest of values, and the default of their kind where there is none
abbrev pub greatest : Kind → List Value → Value
greatest kind [] = default kind
greatest kind (v ∷ vs) = fold greater v vs

-- an aggregate of values of a kind; counts and sums are modulo 2 ^ 64
abbrev pub aggregate : AggKind → Kind → List Value → Value
aggregate aggregates.Count kind vs = values.Num (length vs % 2 ^ 64)
aggregate aggregates.Sum kind vs = values.Num (sum (map number_in vs) % 2 ^ 64)
aggregate aggregates.Min kind vs = least kind vs
aggregate aggregates.Max kind vs = greatest kind vs
aggregate aggregates.UniqExact kind vs = values.Num (length (distinct vs) % 2 ^ 64)

-- the kind of an aggregate of values of a kind
abbrev pub aggregate_kind : AggKind → Kind → Kind
aggregate_kind aggregates.Count kind = kinds.Num
aggregate_kind aggregates.Sum kind = kinds.Num
aggregate_kind aggregates.Min kind = kind
aggregate_kind aggregates.Max kind = kind
aggregate_kind aggregates.UniqExact kind = kinds.Num
