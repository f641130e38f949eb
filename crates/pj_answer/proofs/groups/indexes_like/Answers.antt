use Rattle.std.proofs.Common.{ℕ, [], ◌∷◌, ◌++◌, get_or, Vec, Global, ap, sym, ◌∙◌}
use Rattle.pj_answer.specs.Answers.{same_row}
use Rattle.pj_block.proofs.IndexLemmas.{indexes_kept, indexes_left}
use Rattle.pj_answer.proofs.groups.indexes_like.Goals as goal
use Rattle.pj_answer.proofs.groups.indexes_like.Goals.{then-found+in_ok-push, else-found}

pub loop-other-preserved : goal.loop-other-preserved
loop-other-preserved c =
    let rows = c.args.rows.now.rows in
    let p = λ (k : ℕ). same_row (get_or rows c.args.at []) (get_or rows k []) in
    let other = c.loop-other.other in
    elim c.if-found.branch [
      | then-found+in_ok-push w ↦
          ap (λ (v : Vec ℕ Global). v.items) w.indexes-is ∙ (rw w.in_ok-push.was at w.push.ensures.items)
          ∙ ap (λ ps. ps ++ other ∷ []) c.loop-other.invariant
          ∙ sym (indexes_kept p other (sym c.are_same-found.ensures ∙ w.if-found.true))
      | else-found w ↦
          ap (λ (v : Vec ℕ Global). v.items) w.indexes-is ∙ c.loop-other.invariant
          ∙ sym (indexes_left p other (sym c.are_same-found.ensures ∙ w.if-found.false))
    ]
