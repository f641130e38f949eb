use Rattle.std.proofs.Common.{◌≡◌, map, take}
use Rattle.pj_value.specs.Columns.{values_of}
use Rattle.pj_answer.specs.Groups.{values_for}
use Rattle.pj_answer.proofs.groups.key_columns.Given as goal

abbrev pub invariant-loop-expr : goal.invariant-loop-expr
invariant-loop-expr l = values_of l.columns.items ≡ map (values_for l.held.rows) (take l.expr-index l.exprs)
