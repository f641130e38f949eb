use Rattle.std.proofs.Common.{◌<◌, length, subst, sym, arith}
use Rattle.pj_expr.specs.Fits.{FitsExpr}
use Rattle.pj_answer.proofs.groups.key_columns.Goals as goal

pub eval_block-requires : goal.eval_block-requires
eval_block-requires c =
    let i = c.loop-expr.expr-index in
    let inside : i < length c.args.exprs.now = omega arith in
    subst (FitsExpr c.args.held.now.kinds) (sym c.expr-item.is) (c.requires i c.expr-item.result inside)
