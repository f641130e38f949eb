use Rattle.std.proofs.Common.{◌≡◌, map, ◌∙◌, rules}
use Rattle.std.specs.List.{dedup}
use Rattle.std.proofs.lemmas.Fn.{dedup_same}
use Rattle.pj_value.specs.Aggregates.{has_value}
use Rattle.pj_agg.proofs.PileLemmas.{same, dedup-same, permutation-same, Rises-dedup}
use Rattle.pj_agg.proofs.pile.arrange.Goals as goal

pub returns-clause-same : goal.returns-clause-same
returns-clause-same g c =
    let value = g.T.Valued.value in
    let sorted = c.sort_values.new.items.items in
    let e : c.dedup_by.new.self.items ≡ dedup (same value) sorted =
    dedup_same _ (same value) _ (λ x y b f' x' y' k. search rules) _ _ c.dedup_by.ensures.filtered in
    λ u. (λ i. has_value u (map value (e i))) ∙ dedup-same value sorted u
    ∙ permutation-same value c.args.items.now.items sorted c.sort_values.ensures.permutation u

pub returns-clause-rises : goal.returns-clause-rises
returns-clause-rises g c =
    let value = g.T.Valued.value in
    let sorted = c.sort_values.new.items.items in
    let e : c.dedup_by.new.self.items ≡ dedup (same value) sorted =
    dedup_same _ (same value) _ (λ x y b f' x' y' k. search rules) _ _ c.dedup_by.ensures.filtered in
    rw e (Rises-dedup value sorted c.sort_values.ensures.sorted)
