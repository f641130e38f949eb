use Rattle.std.proofs.Common.{◌≡◌, List, length, map, take}
use Rattle.std.specs.List.{AllZip}
use Rattle.pj_value.specs.declared.value.AggKind.TheVariants as aggregates
use Rattle.pj_value.specs.declared.value.Value.{Value}
use Rattle.pj_value.specs.Summaries.{Number, Stands}
use Rattle.pj_agg.specs.declared.count_state.CountState.{CountState}
use Rattle.pj_agg.specs.Groups.{added}
use Rattle.pj_agg.proofs.state_column.count_values.Given as goal

abbrev pub invariant-rows : goal.invariant-rows
invariant-rows l = record {
  counted : (groups : List (List Value)) (values : List Value) → length values ≡ length l.numbers
      → AllZip (Stands aggregates.Count) (map (λ (s : CountState). Number s.count) l.initial.states.items) groups
      → AllZip (Stands aggregates.Count) (map (λ (s : CountState). Number s.count) l.states.items)
      (added groups (take l.number-index l.numbers) (take l.number-index values));
  len : length l.states.items ≡ length l.initial.states.items;
}
