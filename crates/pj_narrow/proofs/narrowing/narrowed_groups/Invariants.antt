use Rattle.std.proofs.Common.{◌≡◌, map, take}
use Rattle.pj_narrow.specs.Narrowing.{narrowed_expr}
use Rattle.pj_narrow.proofs.narrowing.narrowed_groups.Given as goal

abbrev pub invariant-groups : goal.invariant-groups
invariant-groups l = l.narrow.items ≡ map (narrowed_expr l.columns) (take l.expr-index l.groups)
