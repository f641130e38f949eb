use Rattle.pj_agg.proofs.agg_state.AggState.add.Goals as goal

pub returns-in-Uniq-clause-added : goal.returns-in-Uniq-clause-added
returns-in-Uniq-clause-added c = rw c.in-Uniq.is c.add-in-Uniq.ensures.added
