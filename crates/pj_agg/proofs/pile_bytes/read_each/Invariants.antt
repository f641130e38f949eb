use Rattle.std.proofs.Common.{◌≡◌, ◌++◌, length, map}
use Rattle.std.specs.List.{AllByRecursion, flat_map}
use Rattle.pj_value.specs.Summaries.{Rises, IsOfKind, value_bytes}
use Rattle.pj_agg.proofs.pile_bytes.read_each.Given as goal

abbrev pub invariant-rest : goal.invariant-rest
invariant-rest g l = record {
  read : flat_map value_bytes (map g.T.Valued.value l.items.items) ++ l.rest ≡ l.fn.bytes;
  rises : Rises (map g.T.Valued.value l.items.items);
  kinds : AllByRecursion (IsOfKind g.T.Item.kind) (map g.T.Valued.value l.items.items);
}

abbrev pub decreases-rest : goal.decreases-rest
decreases-rest g l = length l.rest
