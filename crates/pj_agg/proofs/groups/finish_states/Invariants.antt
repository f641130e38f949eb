use Rattle.std.proofs.Common.{◌≡◌, map, take}
use Rattle.pj_value.specs.Aggregates.{aggregate_kind}
use Rattle.pj_value.specs.Summaries.{finished}
use Rattle.pj_agg.proofs.groups.finish_states.Given as goal

abbrev pub invariant-states : goal.invariant-states
invariant-states g l = l.column ≡ record {
  kind = aggregate_kind l.fn.agg l.fn.kind;
  values = map (finished l.fn.kind) (map g.S.State.summary (take l.state-index l.states));
}
