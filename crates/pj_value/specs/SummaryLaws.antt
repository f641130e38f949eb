-- Laws of summaries and of their bytes (docs/MODEL.md, "States").
use Rattle.std.specs.Prelude.{◌≡◌, ◌<◌, List, ◌++◌, length}
use Rattle.std.specs.List.{AllByRecursion}
use Rattle.std.specs.List.Sorted.{IsPermutation}
use Rattle.pj_value.specs.declared.value.Kind.{Kind}
use Rattle.pj_value.specs.declared.value.Kind.TheVariants as kinds
use Rattle.pj_value.specs.declared.value.Value.{Value}
use Rattle.pj_value.specs.declared.value.Value.TheVariants as values
use Rattle.pj_value.specs.declared.value.AggKind.{AggKind}
use Rattle.pj_value.specs.declared.value.AggKind.TheVariants as aggregates
use Rattle.pj_value.specs.Aggregates.{aggregate}
use Rattle.pj_value.specs.Summaries.{Summary, Number, Extreme, Distinct, Stands, finished}
use Rattle.pj_value.specs.Summaries.{IsOfKind, IsSummary, state_bytes}

-- values have one summary at most
abbrev pub OneSummary : Type 0
OneSummary = (agg : AggKind) (vs : List Value) (a b : Summary) → Stands agg a vs → Stands agg b vs → a ≡ b

-- and they have one
abbrev pub EachHasOne : Type 0
EachHasOne = (agg : AggKind) (vs : List Value) → (s : Summary) × Stands agg s vs

-- the order of the values makes no difference
abbrev pub OrderIsFree : Type 0
OrderIsFree =
    (agg : AggKind) (s : Summary) (vs ws : List Value)
    → IsPermutation vs ws → Stands agg s vs → Stands agg s ws

-- what stands for two lists one behind the other depends on the summaries of the two alone
abbrev pub JoinedStand : Type 0
JoinedStand =
    (agg : AggKind) (a b c : Summary) (vs vs' ws ws' : List Value)
    → Stands agg a vs → Stands agg a vs' → Stands agg b ws → Stands agg b ws'
    → Stands agg c (vs ++ ws) → Stands agg c (vs' ++ ws')

-- a summary is finished to the aggregate of the values that it stands for
abbrev pub FinishedIsTheAggregate : Type 0
FinishedIsTheAggregate =
    (agg : AggKind) (kind : Kind) (s : Summary) (vs : List Value)
    → Stands agg s vs → finished kind s ≡ aggregate agg kind vs

-- what stands for values of a kind is a summary of the kind; a sum is of numbers
abbrev pub StandingIsASummary : Type 0
StandingIsASummary =
    (agg : AggKind) (kind : Kind) (s : Summary) (vs : List Value)
    → Stands agg s vs → AllByRecursion (IsOfKind kind) vs → (agg ≡ aggregates.Sum → kind ≡ kinds.Num)
    → IsSummary agg kind s

-- ---- bytes

-- eight bytes can be the length of a text
abbrev pub HasLength : Value → Type 0
HasLength (values.Num n) = Unit {0}
HasLength (values.Text t) = length t < 18446744073709551616

-- eight bytes can be each length that the bytes of the summary have: those of distinct values alone have some
abbrev pub HasLengths : Summary → Type 0
HasLengths (Number n) = Unit {0}
HasLengths (Extreme found) = Unit {0}
HasLengths (Distinct found) = (length found < 18446744073709551616) × AllByRecursion HasLength found

-- summaries under one aggregate of one kind have bytes of their own
abbrev pub BytesTellApart : Type 0
BytesTellApart =
    (agg : AggKind) (kind : Kind) (a b : Summary) → IsSummary agg kind a → IsSummary agg kind b
    → HasLengths a → HasLengths b → state_bytes a ≡ state_bytes b → a ≡ b
