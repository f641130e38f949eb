-- How the pins of a `PartSet` are laid out. No public contract cites this file.
use Rattle.pj_partset.specs.declared.set.Pin.{Pin}
use Rattle.pj_partset.specs.Sets.{Pinned}

-- what contracts see of a pin
abbrev pub pinned_in : {B : Type 0} → Pin B → Pinned B
pinned_in pin = record { number = pin.number; parts = pin.parts }
