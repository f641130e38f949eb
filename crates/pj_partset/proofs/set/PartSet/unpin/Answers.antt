use Rattle.std.proofs.Common.{◌<◌, map}
use Rattle.std.proofs.lemmas.List.Elements.{All-filter}
use Rattle.pj_partset.specs.PinLayout.{pinned_in}
use Rattle.pj_partset.proofs.set.PartSet.unpin.Goals as goal

pub invariant_of-self : goal.invariant_of-self
invariant_of-self g c = (
  c.self.invariant.0,
  rw c.drop_pin.ensures
      (All-filter _ (λ p. p.number < c.self.inside.next) (map pinned_in c.self.inside.pins.items) c.self.invariant.1),
)
