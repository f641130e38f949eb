use Rattle.std.proofs.Common.{◌≡◌, map, take}
use Rattle.std.specs.Arc.{arc_value}
use Rattle.pj_partset.proofs.list.copied.Given as goal

abbrev pub invariant-parts : goal.invariant-parts
invariant-parts g l = map (λ p. arc_value p) l.copy.items ≡ map (λ p. arc_value p) (take l.part-index l.parts)
