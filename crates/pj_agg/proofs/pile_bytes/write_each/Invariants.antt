use Rattle.std.proofs.Common.{◌≡◌, ◌++◌, length, map, take}
use Rattle.std.specs.List.{AllByRecursion, flat_map}
use Rattle.pj_value.specs.Values.{Fits}
use Rattle.pj_value.specs.Summaries.{value_bytes}
use Rattle.pj_agg.proofs.pile_bytes.write_each.Given as goal

abbrev pub invariant-items : goal.invariant-items
invariant-items g l = record {
  bytes : l.out.items
      ≡ l.initial.out.items ++ flat_map value_bytes (map g.T.Valued.value (take l.item-index l.items));
  fits : AllByRecursion Fits (map g.T.Valued.value (take l.item-index l.items));
  kept : take (length l.initial.out.items) l.out.items ≡ l.initial.out.items;
}
