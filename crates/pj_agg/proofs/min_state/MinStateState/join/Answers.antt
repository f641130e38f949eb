use Rattle.std.proofs.Common.{sym, ◌∙◌}
use Rattle.std.proofs.lemmas.Result.{on_ok_weaker}
use Rattle.pj_value.specs.Aggregates.{lesser}
use Rattle.pj_agg.specs.States.{with_either}
use Rattle.pj_agg.proofs.ChoiceLemmas.{extreme_of-append, lesser-assoc}
use Rattle.pj_agg.proofs.min_state.MinStateState.join.Goals as goal

pub returns-clause-joined : goal.returns-clause-joined
returns-clause-joined c =
    on_ok_weaker c.join.result
    (λ e vs ws p q. e ∙ (λ i. with_either lesser (p i) (q i)) ∙ sym (extreme_of-append lesser lesser-assoc vs ws))
    c.join.ensures.joined
