use Rattle.pj_agg.proofs.agg_state.AggState.join.Goals as goal
use Rattle.pj_agg.proofs.agg_state.AggState.join.Goals.{in-Count-Count, in-Sum-Sum, in-Min-Min, in-Max-Max}
use Rattle.pj_agg.proofs.agg_state.AggState.join.Goals.{in-Uniq-Uniq}

pub returns-clause-joined : goal.returns-clause-joined
returns-clause-joined c =
    elim c.match-self.branch [
      | in-Count-Count w ↦
          rw (w.result-is, w.self-is, w.in-Count-Count.is-0, w.in-Count-Count.is-1) w.join.ensures.joined
      | in-Sum-Sum w ↦
          rw (w.result-is, w.self-is, w.in-Sum-Sum.is-0, w.in-Sum-Sum.is-1) w.join-in-Sum-Sum.ensures.joined
      | in-Min-Min w ↦
          rw (w.result-is, w.self-is, w.in-Min-Min.is-0, w.in-Min-Min.is-1) w.join-in-Min-Min.ensures.joined
      | in-Max-Max w ↦
          rw (w.result-is, w.self-is, w.in-Max-Max.is-0, w.in-Max-Max.is-1) w.join-in-Max-Max.ensures.joined
      | in-Uniq-Uniq w ↦
          rw (w.result-is, w.self-is, w.in-Uniq-Uniq.is-0, w.in-Uniq-Uniq.is-1) w.join-in-Uniq-Uniq.ensures.joined
    ]

pub returns-clause-memory : goal.returns-clause-memory
returns-clause-memory c =
    elim c.match-self.branch [
      | in-Count-Count w ↦ rw (w.result-is, w.in-Count-Count.is-0) w.join.ensures.memory
      | in-Sum-Sum w ↦ rw (w.result-is, w.in-Sum-Sum.is-0) w.join-in-Sum-Sum.ensures.memory
      | in-Min-Min w ↦ rw (w.result-is, w.in-Min-Min.is-0) w.join-in-Min-Min.ensures.memory
      | in-Max-Max w ↦ rw (w.result-is, w.in-Max-Max.is-0) w.join-in-Max-Max.ensures.memory
      | in-Uniq-Uniq w ↦ rw (w.result-is, w.in-Uniq-Uniq.is-0) w.join-in-Uniq-Uniq.ensures.memory
    ]
