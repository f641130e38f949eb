-- What the state of any aggregate keeps, by its kind.
use Rattle.std.specs.Prelude.{◌≡◌}
use Rattle.pj_value.specs.declared.value.Kind.{Kind}
use Rattle.pj_value.specs.declared.value.Kind.TheVariants as kinds
use Rattle.pj_value.specs.declared.value.AggKind.{AggKind}
use Rattle.pj_value.specs.declared.value.AggKind.TheVariants as aggregates
use Rattle.pj_value.specs.Summaries.{Summary, Number, Extreme, Distinct}
use Rattle.pj_agg.specs.declared.agg_state.AggState.{AggState}
use Rattle.pj_agg.specs.declared.agg_state.AggState.TheVariants as agg_states
use Rattle.pj_agg.specs.InOrder.{in_order}
use Rattle.pj_agg.specs.States.{kept_kind, kept_value, piles_kind, piles_values}

-- the aggregate whose state it is
abbrev pub agg_of : AggState → AggKind
agg_of (agg_states.Count s) = aggregates.Count
agg_of (agg_states.Sum s) = aggregates.Sum
agg_of (agg_states.Min s) = aggregates.Min
agg_of (agg_states.Max s) = aggregates.Max
agg_of (agg_states.Uniq s) = aggregates.UniqExact

-- what it keeps
abbrev pub summary_of : AggState → Summary
summary_of (agg_states.Count s) = Number s.count
summary_of (agg_states.Sum s) = Number s.total
summary_of (agg_states.Min s) = Extreme (kept_value s.kept)
summary_of (agg_states.Max s) = Extreme (kept_value s.kept)
summary_of (agg_states.Uniq s) = Distinct (in_order (piles_values s.piles))

-- it is a state of values of this kind; a count is one of any kind
abbrev pub IsOf : Kind → AggState → Type 0
IsOf kind (agg_states.Count s) = Unit {0}
IsOf kind (agg_states.Sum s) = kind ≡ kinds.Num
IsOf kind (agg_states.Min s) = kept_kind s.kept ≡ kind
IsOf kind (agg_states.Max s) = kept_kind s.kept ≡ kind
IsOf kind (agg_states.Uniq s) = piles_kind s.piles ≡ kind
