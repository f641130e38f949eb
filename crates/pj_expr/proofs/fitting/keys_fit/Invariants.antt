use Rattle.std.proofs.Common.{take}
use Rattle.std.specs.List.{AllByRecursion}
use Rattle.pj_expr.specs.Fits.{FitsItem}
use Rattle.pj_expr.proofs.fitting.keys_fit.Given as goal

abbrev pub invariant-loop-key : goal.invariant-loop-key
invariant-loop-key l = AllByRecursion (λ key. FitsItem l.kinds key.item) (take l.key-index l.keys)
