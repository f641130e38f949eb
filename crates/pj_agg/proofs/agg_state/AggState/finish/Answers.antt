use Rattle.pj_agg.proofs.agg_state.AggState.finish.Goals as goal

pub returns-in-Count-clause-value : goal.returns-in-Count-clause-value
returns-in-Count-clause-value c = rw c.in-Count.is c.finish.ensures.value

pub returns-in-Count-clause-kind : goal.returns-in-Count-clause-kind
returns-in-Count-clause-kind c = rw c.in-Count.is c.finish.ensures.kind
