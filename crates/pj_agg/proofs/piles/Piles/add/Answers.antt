use Rattle.pj_agg.proofs.piles.Piles.add.Goals as goal

pub returns-in-Num-clause-added : goal.returns-in-Num-clause-added
returns-in-Num-clause-added c = rw c.in-Num.is c.add.ensures.added

pub returns-in-Num-clause-same : goal.returns-in-Num-clause-same
returns-in-Num-clause-same c = rw c.in-Num.is c.add.ensures.same

pub returns-in-Text-clause-added : goal.returns-in-Text-clause-added
returns-in-Text-clause-added c = rw c.in-Text.is c.add-in-Text.ensures.added

pub returns-in-Text-clause-same : goal.returns-in-Text-clause-same
returns-in-Text-clause-same c = rw c.in-Text.is c.add-in-Text.ensures.same
