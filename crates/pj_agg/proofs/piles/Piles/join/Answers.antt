use Rattle.pj_agg.proofs.piles.Piles.join.Goals as goal
use Rattle.pj_agg.proofs.piles.Piles.join.Goals.{in-Num-Num, in-Text-Text}

pub returns-clause-joined : goal.returns-clause-joined
returns-clause-joined c =
    elim c.match-self.branch [
      | in-Num-Num w ↦
          rw (w.result-is, w.self-is, w.in-Num-Num.is-0, w.in-Num-Num.is-1) w.join.ensures.joined
      | in-Text-Text w ↦
          rw (w.result-is, w.self-is, w.in-Text-Text.is-0, w.in-Text-Text.is-1)
          w.join-in-Text-Text.ensures.joined
    ]

pub returns-clause-same : goal.returns-clause-same
returns-clause-same c =
    elim c.match-self.branch [
      | in-Num-Num w ↦ rw (w.result-is, w.self-is, w.in-Num-Num.is-0) w.join.ensures.same
      | in-Text-Text w ↦ rw (w.result-is, w.self-is, w.in-Text-Text.is-0) w.join-in-Text-Text.ensures.same
    ]
