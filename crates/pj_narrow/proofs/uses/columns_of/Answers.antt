use Rattle.std.proofs.Common.{ℕ, [], ◌∷◌, ◌++◌, Vec, Global, ap, sym, ◌∙◌}
use Rattle.pj_block.proofs.IndexLemmas.{indexes_kept, indexes_left}
use Rattle.pj_narrow.specs.Narrowing.{query_uses}
use Rattle.pj_narrow.proofs.uses.columns_of.Goals as goal
use Rattle.pj_narrow.proofs.uses.columns_of.Goals.{then-used+in_ok-push, else-used}

pub columns-preserved : goal.columns-preserved
columns-preserved c =
    let p = λ (at : ℕ). query_uses at c.args.query.now in
    let column = c.columns.column in
    elim c.if-used.branch [
      | then-used+in_ok-push w ↦
          ap (λ (v : Vec ℕ Global). v.items) w.columns-is ∙ (rw w.in_ok-push.was at w.push.ensures.items)
          ∙ ap (λ ps. ps ++ column ∷ []) c.columns.invariant
          ∙ sym (indexes_kept p column (sym c.query_uses-used.ensures ∙ w.if-used.true))
      | else-used w ↦
          ap (λ (v : Vec ℕ Global). v.items) w.columns-is ∙ c.columns.invariant
          ∙ sym (indexes_left p column (sym c.query_uses-used.ensures ∙ w.if-used.false))
    ]
