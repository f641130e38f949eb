use Rattle.std.proofs.Common.{ℕ, List, [], ◌∷◌, ◌++◌, sym, ap, ◌∙◌, arith}
use Rattle.std.proofs.lemmas.List.FromFn.{map-range_with_len_more}
use Rattle.pj_expr.specs.declared.expr.Expr.TheVariants as exprs
use Rattle.pj_expr.specs.declared.query.Item.{Item}
use Rattle.pj_expr.specs.declared.query.Item.TheVariants.{Plain}
use Rattle.pj_bind.proofs.queries.every_column.Goals as goal

pub columns-preserved : goal.columns-preserved
columns-preserved c =
    let made : ℕ → Item = λ at. Plain (exprs.Column at) in
    c.in_ok-push.ensures.items ∙ ap (λ (xs : List Item). xs ++ made c.columns.at ∷ []) c.columns.invariant
    ∙ sym (map-range_with_len_more made 0 c.columns.at c.columns.at (omega arith))
