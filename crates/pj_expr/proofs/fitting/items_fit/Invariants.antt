use Rattle.std.proofs.Common.{take}
use Rattle.std.specs.List.{AllByRecursion}
use Rattle.pj_expr.specs.Fits.{FitsItem}
use Rattle.pj_expr.proofs.fitting.items_fit.Given as goal

abbrev pub invariant-loop-item : goal.invariant-loop-item
invariant-loop-item l = AllByRecursion (FitsItem l.kinds) (take l.item-index l.items)
