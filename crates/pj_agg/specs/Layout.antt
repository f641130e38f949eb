-- How the states of groups are laid out. No public contract cites this file.
use Rattle.std.specs.Prelude.{◌≡◌, List, map}
use Rattle.std.specs.List.{All}
use Rattle.pj_value.specs.declared.value.Kind.{Kind}
use Rattle.pj_value.specs.declared.value.Kind.TheVariants as kinds
use Rattle.pj_value.specs.declared.value.AggKind.{AggKind}
use Rattle.pj_value.specs.declared.value.AggKind.TheVariants as aggregates
use Rattle.pj_value.specs.Summaries.{Summary, Number, Extreme, Distinct}
use Rattle.pj_agg.specs.declared.count_state.CountState.{CountState}
use Rattle.pj_agg.specs.declared.sum_state.SumState.{SumState}
use Rattle.pj_agg.specs.declared.min_state.MinState.{MinState}
use Rattle.pj_agg.specs.declared.max_state.MaxState.{MaxState}
use Rattle.pj_agg.specs.declared.uniq_state.UniqState.{UniqState}
use Rattle.pj_agg.specs.declared.state_column.States.{States}
use Rattle.pj_agg.specs.declared.state_column.States.TheVariants as states
use Rattle.pj_agg.specs.InOrder.{in_order}
use Rattle.pj_agg.specs.States.{kept_kind, kept_value, piles_kind, piles_values}

-- the aggregate whose states they are
abbrev pub states_agg : States → AggKind
states_agg (states.Count held) = aggregates.Count
states_agg (states.Sum held) = aggregates.Sum
states_agg (states.Min held) = aggregates.Min
states_agg (states.Max held) = aggregates.Max
states_agg (states.Uniq held) = aggregates.UniqExact

-- what each of them keeps
abbrev pub states_summaries : States → List Summary
states_summaries (states.Count held) = map (λ (s : CountState). Number s.count) held.items
states_summaries (states.Sum held) = map (λ (s : SumState). Number s.total) held.items
states_summaries (states.Min held) = map (λ (s : MinState). Extreme (kept_value s.kept)) held.items
states_summaries (states.Max held) = map (λ (s : MaxState). Extreme (kept_value s.kept)) held.items
states_summaries (states.Uniq held) =
    map (λ (s : UniqState). Distinct (in_order (piles_values s.piles))) held.items

-- each of them is a state of values of this kind
abbrev pub AreStatesOf : Kind → States → Type 0
AreStatesOf kind (states.Count held) = Unit {0}
AreStatesOf kind (states.Sum held) = kind ≡ kinds.Num
AreStatesOf kind (states.Min held) = All (λ (s : MinState). kept_kind s.kept ≡ kind) held.items
AreStatesOf kind (states.Max held) = All (λ (s : MaxState). kept_kind s.kept ≡ kind) held.items
AreStatesOf kind (states.Uniq held) = All (λ (s : UniqState). piles_kind s.piles ≡ kind) held.items
