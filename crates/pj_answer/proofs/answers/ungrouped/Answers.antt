use Rattle.std.proofs.Common.{[], ◌∷◌, List, sym, ◌∙◌}
use Rattle.std.proofs.lemmas.Simd.{map-map}
use Rattle.pj_value.specs.declared.value.Value.{Value}
use Rattle.pj_answer.specs.Rows.{of_kinds}
use Rattle.pj_answer.proofs.ShapeLemmas.{groups_row}
use Rattle.pj_answer.proofs.answers.ungrouped.Goals as goal

pub returns-else-aggregates : goal.returns-else-aggregates
returns-else-aggregates c =
    let held = c.args.held.now in
    rw (
      groups_row c.args.query.now held.rows (sym c.aggregates.ensures ∙ c.if-aggregates.false),
      map-map (of_kinds held.kinds) (λ (row : List Value). row ∷ []) held.rows,
    )
    c.row_groups.ensures
