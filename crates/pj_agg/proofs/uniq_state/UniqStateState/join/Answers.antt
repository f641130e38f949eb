use Rattle.std.proofs.Common.{◌++◌, ap, ◌∙◌}
use Rattle.std.proofs.lemmas.Result.{on_ok_weaker, on_err_weaker}
use Rattle.pj_value.specs.Summaries.{Distinct}
use Rattle.pj_agg.specs.States.{piles_values}
use Rattle.pj_value.proofs.MemberLemmas.{HaveSameValues-append}
use Rattle.pj_agg.proofs.InOrderLemmas.{in_order-same, stands-in_order, same-in_order}
use Rattle.pj_agg.proofs.uniq_state.UniqStateState.join.Goals as goal

pub returns-clause-joined : goal.returns-clause-joined
returns-clause-joined c =
    let old = piles_values c.args.self.now.piles in
    let more = piles_values c.args.other.now.piles in
    let new = piles_values c.join.new.self in
    on_ok_weaker c.join.result
    (λ s vs ws h k. stands-in_order new (vs ++ ws)
    (λ u. s u ∙ HaveSameValues-append old vs more ws (same-in_order old vs h) (same-in_order more ws k) u))
    c.join.ensures.joined

pub returns-clause-same : goal.returns-clause-same
returns-clause-same c =
    on_err_weaker c.join.result
    (λ s. ap (λ found. Distinct found)
    (in_order-same (piles_values c.join.new.self) (piles_values c.args.self.now.piles) s)) c.join.ensures.same
