use Rattle.std.proofs.Common.{◌≡◌, take}
use Rattle.pj_expr.proofs.query.copies_of_groups.Given as goal

abbrev pub invariant-loop-expr : goal.invariant-loop-expr
invariant-loop-expr l = l.copies.items ≡ take l.expr-index l.groups
