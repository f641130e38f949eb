use Rattle.std.proofs.Common.{ℕ, false, [], ◌∷◌, ◌++◌, get_or, Vec, Global, ap}
use Rattle.std.proofs.Common.{sym, ◌∙◌}
use Rattle.pj_block.proofs.IndexLemmas.{indexes_kept, indexes_left}
use Rattle.pj_block.proofs.conditions.indexes_of.Goals as goal
use Rattle.pj_block.proofs.conditions.indexes_of.Goals.{then-holds+in_ok-push, else-holds}

pub loop-at-preserved : goal.loop-at-preserved
loop-at-preserved c =
    let p = λ (at : ℕ). get_or c.args.held.now at false in
    let at = c.loop-at.at in
    elim c.if-holds.branch [
      | then-holds+in_ok-push w ↦
          ap (λ (v : Vec ℕ Global). v.items) w.indexes-is ∙ (rw w.in_ok-push.was at w.push.ensures.items)
          ∙ ap (λ ps. ps ++ at ∷ []) c.loop-at.invariant ∙ sym (indexes_kept p at w.if-holds.true)
      | else-holds w ↦
          ap (λ (v : Vec ℕ Global). v.items) w.indexes-is ∙ c.loop-at.invariant
          ∙ sym (indexes_left p at w.if-holds.false)
    ]
