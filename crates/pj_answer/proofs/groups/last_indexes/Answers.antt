use Rattle.std.proofs.Common.{ℕ, not, [], ◌∷◌, ◌++◌, Vec, Global, ap, sym, ◌∙◌}
use Rattle.pj_answer.specs.Groups.{comes_again}
use Rattle.pj_block.proofs.IndexLemmas.{indexes_kept, indexes_left}
use Rattle.pj_answer.proofs.groups.last_indexes.Goals as goal
use Rattle.pj_answer.proofs.groups.last_indexes.Goals.{then-not-again+in_ok-push, else-not-again}

pub loop-at-preserved : goal.loop-at-preserved
loop-at-preserved c =
    let p = λ (at : ℕ). not (comes_again c.args.rows.now.rows at) in
    let at = c.loop-at.at in
    elim c.if-not-again.branch [
      | then-not-again+in_ok-push w ↦
          ap (λ (v : Vec ℕ Global). v.items) w.indexes-is ∙ (rw w.in_ok-push.was at w.push.ensures.items)
          ∙ ap (λ ps. ps ++ at ∷ []) c.loop-at.invariant
          ∙ sym (indexes_kept p at (ap not (sym c.comes_again-again.ensures ∙ w.if-not-again.true)))
      | else-not-again w ↦
          ap (λ (v : Vec ℕ Global). v.items) w.indexes-is ∙ c.loop-at.invariant
          ∙ sym (indexes_left p at (ap not (sym c.comes_again-again.ensures ∙ w.if-not-again.false)))
    ]
