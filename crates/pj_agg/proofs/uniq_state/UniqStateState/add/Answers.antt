use Rattle.std.proofs.Common.{[], ◌∷◌, ◌++◌, refl, ap, ◌∙◌}
use Rattle.std.proofs.lemmas.Result.{on_ok_weaker, on_err_weaker}
use Rattle.pj_value.specs.Values.{value_of}
use Rattle.pj_value.specs.Summaries.{Distinct}
use Rattle.pj_agg.specs.States.{piles_values}
use Rattle.pj_value.proofs.MemberLemmas.{HaveSameValues-append}
use Rattle.pj_agg.proofs.InOrderLemmas.{in_order-same, stands-in_order, same-in_order}
use Rattle.pj_agg.proofs.uniq_state.UniqStateState.add.Goals as goal

pub returns-clause-added : goal.returns-clause-added
returns-clause-added c =
    let old = piles_values c.args.self.now.piles in
    let new = piles_values c.add.new.self in
    let v = value_of c.args.cell in
    on_ok_weaker c.add.result
    (λ s vs h. stands-in_order new (vs ++ v ∷ [])
    (λ u. s u ∙ HaveSameValues-append old vs (v ∷ []) (v ∷ []) (same-in_order old vs h) (λ w. refl) u))
    c.add.ensures.added

pub returns-clause-same : goal.returns-clause-same
returns-clause-same c =
    on_err_weaker c.add.result
    (λ s. ap (λ found. Distinct found)
    (in_order-same (piles_values c.add.new.self) (piles_values c.args.self.now.piles) s)) c.add.ensures.same
