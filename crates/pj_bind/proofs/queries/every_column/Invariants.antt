use Rattle.std.proofs.Common.{◌≡◌, map}
use Rattle.std.specs.List.{range_with_len}
use Rattle.pj_expr.specs.declared.expr.Expr.TheVariants as exprs
use Rattle.pj_expr.specs.declared.query.Item.TheVariants.{Plain}
use Rattle.pj_bind.proofs.queries.every_column.Given as goal

abbrev pub invariant-columns : goal.invariant-columns
invariant-columns l = l.items.items ≡ map (λ at. Plain (exprs.Column at)) (range_with_len 0 l.at)
