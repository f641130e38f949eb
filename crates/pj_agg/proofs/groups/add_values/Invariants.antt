use Rattle.std.proofs.Common.{◌≡◌, List, length, map, take}
use Rattle.std.specs.List.{All, AllZip}
use Rattle.pj_value.specs.declared.value.Kind.{Kind}
use Rattle.pj_value.specs.declared.value.Value.{Value}
use Rattle.pj_value.specs.Summaries.{Stands}
use Rattle.pj_agg.specs.Groups.{added}
use Rattle.pj_agg.proofs.groups.add_values.Given as goal

abbrev pub invariant-rows : goal.invariant-rows
invariant-rows g l = record {
  added : (groups : List (List Value))
      → AllZip (Stands g.S.State.agg) (map g.S.State.summary l.initial.states.items) groups
      → AllZip (Stands g.S.State.agg) (map g.S.State.summary l.states.items)
      (added groups (take l.at l.numbers) (take l.at (map g.T.Valued.value l.values)));
  kind : (kind : Kind) → All (g.S.State.is_of kind) l.initial.states.items
      → All (g.S.State.is_of kind) l.states.items;
  len : length l.states.items ≡ length l.initial.states.items;
}
