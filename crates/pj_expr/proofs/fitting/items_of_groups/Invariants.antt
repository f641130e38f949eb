use Rattle.std.proofs.Common.{take}
use Rattle.std.specs.List.{AllByRecursion}
use Rattle.pj_expr.specs.Fits.{IsOfGroup}
use Rattle.pj_expr.proofs.fitting.items_of_groups.Given as goal

abbrev pub invariant-loop-item : goal.invariant-loop-item
invariant-loop-item l = AllByRecursion (IsOfGroup l.groups) (take l.item-index l.items)
