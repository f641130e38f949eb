use Rattle.std.proofs.Common.{◌≡◌, take, ◌≤◌, ◌-◌, max, List, [], ◌++◌, length, map, replicate, vec_len}
use Rattle.std.specs.List.{All, AllZip}
use Rattle.pj_value.specs.declared.value.Value.{Value}
use Rattle.pj_value.specs.Summaries.{Stands}
use Rattle.pj_agg.proofs.groups.grow_states.Given as goal

abbrev pub invariant-more : goal.invariant-more
invariant-more g l = record {
  grown : (groups : List (List Value))
      → AllZip (Stands g.S.State.agg) (map g.S.State.summary l.initial.states.items) groups
      → AllZip (Stands g.S.State.agg) (map g.S.State.summary l.states.items)
      (groups ++ replicate (length l.states.items - length groups) []);
  kind : All (g.S.State.is_of l.kind) l.initial.states.items → All (g.S.State.is_of l.kind) l.states.items;
  more : length l.initial.states.items ≤ length l.states.items;
  kept : take (length (map g.S.State.summary l.initial.states.items)) (map g.S.State.summary l.states.items)
      ≡ map g.S.State.summary l.initial.states.items;
  most : length l.states.items ≤ max (length l.initial.states.items) l.len;
}

abbrev pub decreases-more : goal.decreases-more
decreases-more g l = l.len - vec_len l.states
