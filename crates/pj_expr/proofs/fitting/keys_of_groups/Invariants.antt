use Rattle.std.proofs.Common.{take}
use Rattle.std.specs.List.{AllByRecursion}
use Rattle.pj_expr.specs.Fits.{IsOfGroup}
use Rattle.pj_expr.proofs.fitting.keys_of_groups.Given as goal

abbrev pub invariant-loop-key : goal.invariant-loop-key
invariant-loop-key l = AllByRecursion (λ key. IsOfGroup l.groups key.item) (take l.key-index l.keys)
