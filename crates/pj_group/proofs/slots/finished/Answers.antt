use Rattle.pj_group.proofs.SlotLemmas.{finished-slot}
use Rattle.pj_group.proofs.slots.finished.Goals as goal

pub returns-in_ok-column-in-States : goal.returns-in_ok-column-in-States
returns-in_ok-column-in-States c = λ columns groups item f s.
    finished-slot columns groups item c.in-States.states c.in_ok-column-in-States.column
    c.in_ok-column-in-States.ensures f (rw c.in-States.is at s)
