use Rattle.std.proofs.Common.{take}
use Rattle.std.specs.List.{AllByRecursion}
use Rattle.pj_expr.specs.Fits.{FitsExpr}
use Rattle.pj_expr.proofs.fitting.groups_fit.Given as goal

abbrev pub invariant-loop-expr : goal.invariant-loop-expr
invariant-loop-expr l = AllByRecursion (FitsExpr l.kinds) (take l.expr-index l.groups)
