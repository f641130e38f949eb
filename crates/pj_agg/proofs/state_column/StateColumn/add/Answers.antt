use Rattle.std.proofs.Common.{subst}
use Rattle.pj_agg.specs.Layout.{AreStatesOf}
use Rattle.pj_agg.proofs.state_column.StateColumn.add.Goals as goal
use Rattle.pj_agg.proofs.state_column.StateColumn.add.Goals.{in-Count, in-Sum, in-Min, in-Max, in-Uniq}

pub invariant_of-self : goal.invariant_of-self
invariant_of-self c =
    let kind = c.self.inside.kind in
    elim c.match-self.branch [
      | in-Count w ↦ rw w.self-inside-is tt
      | in-Sum w ↦ rw w.self-inside-is (subst (AreStatesOf kind) w.in-Sum.is c.self.invariant)
      | in-Min w ↦
          rw w.self-inside-is
          (w.add_column-in-Min.ensures.kind kind (subst (AreStatesOf kind) w.in-Min.is c.self.invariant))
      | in-Max w ↦
          rw w.self-inside-is
          (w.add_column-in-Max.ensures.kind kind (subst (AreStatesOf kind) w.in-Max.is c.self.invariant))
      | in-Uniq w ↦
          rw w.self-inside-is
          (w.add_column-in-Uniq.ensures.kind kind (subst (AreStatesOf kind) w.in-Uniq.is c.self.invariant))
    ]
