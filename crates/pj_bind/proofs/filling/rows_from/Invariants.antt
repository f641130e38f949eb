use Rattle.std.proofs.Common.{◌≡◌, map, take}
use Rattle.std.specs.List.{AllByRecursion}
use Rattle.pj_bind.specs.Sources.{filled_from, FillsFrom}
use Rattle.pj_bind.proofs.filling.rows_from.Given as goal

abbrev pub invariant-rows : goal.invariant-rows
invariant-rows l = record {
  made : l.made ≡ record { kinds = l.kinds; rows = map (filled_from l.sources) (take l.at l.rows) };
  fill : AllByRecursion (FillsFrom l.sources l.width) (take l.at l.rows);
}
