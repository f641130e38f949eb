use Rattle.std.proofs.lemmas.Result.{on_ok_weaker}
use Rattle.pj_agg.proofs.agg_state.AggState.encode.Goals as goal

pub returns-in-Count-clause-whole : goal.returns-in-Count-clause-whole
returns-in-Count-clause-whole c = rw c.in-Count.is (on_ok_weaker c.encode.result (λ h kind k. h kind tt) c.encode.ensures.whole)
