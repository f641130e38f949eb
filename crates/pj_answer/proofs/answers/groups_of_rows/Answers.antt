use Rattle.std.proofs.lemmas.List.Elements.{All-from_recursion}
use Rattle.pj_expr.specs.Fits.{FitsExpr}
use Rattle.pj_answer.proofs.answers.groups_of_rows.Goals as goal

pub groups_by-requires-clause-fits : goal.groups_by-requires-clause-fits
groups_by-requires-clause-fits c =
    rw c.as_slice-exprs.ensures
    (All-from_recursion (FitsExpr c.args.held.now.kinds) c.args.query.now.groups c.requires)
