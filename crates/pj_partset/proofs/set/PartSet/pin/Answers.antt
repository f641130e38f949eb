use Rattle.std.proofs.Common.{◌+◌, refl, arith}
use Rattle.pj_partset.proofs.SetLemmas.{AreBefore-push}
use Rattle.pj_partset.proofs.set.PartSet.pin.Goals as goal

pub invariant_of-self-2 : goal.invariant_of-self-2
invariant_of-self-2 g c = (
  c.self.invariant.0,
  AreBefore-push c.self.inside.next (c.self.inside.next + 1) c.self.inside.pins.items c.push.new.self.items _
      c.self.invariant.1 refl (omega arith) c.in_ok-push.ensures.items,
)
