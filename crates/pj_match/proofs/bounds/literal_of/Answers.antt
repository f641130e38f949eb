use Rattle.std.proofs.Common.{sym, ◌∙◌, true≢false}
use Rattle.pj_match.specs.Ranges.{literal}
use Rattle.pj_match.proofs.ChosenLemmas.{takes-on, takes-off}
use Rattle.pj_match.proofs.bounds.literal_of.Goals as goal
use Rattle.pj_match.proofs.bounds.literal_of.Goals.{else-serves-via-then-serves+else-is_same_expr}
use Rattle.pj_match.proofs.bounds.literal_of.Goals.{else-serves-via-else-serves}

pub returns-then-is_same_expr : goal.returns-then-is_same_expr
returns-then-is_same_expr c =
    rw c.literal.ensures
    (takes-on c.args.side c.args.component.now c.args.left.now c.args.op (literal c.args.right.now)
    (sym c.serves.ensures ∙ c.if-serves.true) (c.is_same_expr.ensures.0 c.if-is_same_expr.true))

pub returns-else-serves : goal.returns-else-serves
returns-else-serves c =
    takes-off c.args.side c.args.component.now c.args.left.now c.args.op (literal c.args.right.now)
    (elim c.else-serves.branch [
      | else-serves-via-then-serves+else-is_same_expr w ↦
          λ served same. true≢false (sym (w.is_same_expr.ensures.1 same) ∙ w.if-is_same_expr.false)
      | else-serves-via-else-serves w ↦
          λ served same. true≢false (sym served ∙ sym c.serves.ensures ∙ w.if-serves.false)
    ])
