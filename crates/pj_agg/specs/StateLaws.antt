-- Laws of states: what a summary stands for, what is made by joining, and what bytes tell (docs/MODEL.md,
-- "States").
use Rattle.std.specs.Prelude.{◌≡◌, ◌<◌, true, false, Some, None, List, [], ◌++◌, length}
use Rattle.std.specs.List.{AllByRecursion}
use Rattle.std.specs.List.Sorted.{IsPermutation}
use Rattle.std.specs.Ordering.{is_lt}
use Rattle.pj_value.specs.declared.value.Kind.{Kind}
use Rattle.pj_value.specs.declared.value.Value.{Value}
use Rattle.pj_value.specs.declared.value.AggKind.{AggKind}
use Rattle.pj_value.specs.declared.value.AggKind.TheVariants as aggregates
use Rattle.pj_value.specs.Order.{value_cmp}
use Rattle.pj_value.specs.Aggregates.{has_value}
use Rattle.pj_value.specs.Summaries.{Summary, Extreme, Stands, finished, IsOfKind, IsSummary, state_bytes}

-- ---- what a summary stands for

-- each summary that code can hold stands for values of its kind: what a state that was read keeps is such a
-- summary, so clauses on the values that a state stands for are never empty of it
abbrev pub EachStandsForValues : Type 0
EachStandsForValues =
    (agg : AggKind) (kind : Kind) (s : Summary) → IsSummary agg kind s
    → (vs : List Value) × Stands agg s vs × AllByRecursion (IsOfKind kind) vs

-- what is kept under min is one of the values, and none of them is less
abbrev pub LeastIsLeast : Type 0
LeastIsLeast =
    (v : Value) (vs : List Value) → Stands aggregates.Min (Extreme (Some v)) vs
    → (has_value v vs ≡ true) × ((w : Value) → has_value w vs ≡ true → is_lt (value_cmp w v) ≡ false)

-- what is kept under max is one of the values, and none of them is greater
abbrev pub GreatestIsGreatest : Type 0
GreatestIsGreatest =
    (v : Value) (vs : List Value) → Stands aggregates.Max (Extreme (Some v)) vs
    → (has_value v vs ≡ true) × ((w : Value) → has_value w vs ≡ true → is_lt (value_cmp v w) ≡ false)

-- no least value is kept only where there is no value
abbrev pub NoLeastOfNone : Type 0
NoLeastOfNone = (vs : List Value) → Stands aggregates.Min (Extreme None) vs → vs ≡ []

-- and so no greatest one
abbrev pub NoGreatestOfNone : Type 0
NoGreatestOfNone = (vs : List Value) → Stands aggregates.Max (Extreme None) vs → vs ≡ []

-- ---- what is made by joining

-- which of two states is joined to the other makes no difference: their values are the same in another order
abbrev pub JoiningCommutes : Type 0
JoiningCommutes =
    (agg : AggKind) (a b : Summary) (vs ws : List Value)
    → Stands agg a (vs ++ ws) → Stands agg b (ws ++ vs) → a ≡ b

-- which two of three states are joined first makes no difference: their values are the same list
abbrev pub JoiningAssociates : Type 0
JoiningAssociates =
    (agg : AggKind) (a b : Summary) (us vs ws : List Value)
    → Stands agg a ((us ++ vs) ++ ws) → Stands agg b (us ++ (vs ++ ws)) → a ≡ b

-- however values were divided and joined, they have one answer: it hangs on which values there are, and how
-- many of each, and not on their order
abbrev pub EqualValuesFinishAlike : Type 0
EqualValuesFinishAlike =
    (agg : AggKind) (kind : Kind) (a b : Summary) (vs ws : List Value)
    → IsPermutation vs ws → Stands agg a vs → Stands agg b ws → finished kind a ≡ finished kind b

-- ---- bytes

-- fewer than 2 ^ 64 bytes are those of one summary of an aggregate and kind: each length that stands in them is
-- no more than they are, so eight bytes can be it
abbrev pub BytesTellSummary : Type 0
BytesTellSummary =
    (agg : AggKind) (kind : Kind) (a b : Summary) → IsSummary agg kind a → IsSummary agg kind b
    → length (state_bytes a) < 18446744073709551616 → state_bytes a ≡ state_bytes b → a ≡ b
