use Rattle.std.proofs.Common.{◌≡◌, ◌++◌, length, map, take}
use Rattle.pj_agg.proofs.pile.push_copies.Given as goal

abbrev pub invariant-more : goal.invariant-more
invariant-more g l = record {
  added : map g.T.Valued.value l.items.items
      ≡ map g.T.Valued.value l.initial.items.items ++ map g.T.Valued.value (take l.item-index l.more);
  kept : take (length l.initial.items.items) l.items.items ≡ l.initial.items.items;
}
