-- How a `PartList` is laid out. No public contract cites this file.
use Rattle.std.specs.Prelude.{List, [], map, Option, Some, None}
use Rattle.std.specs.Arc.{arc_value}
use Rattle.std.specs.declared.sync.Arc.{Arc}
use Rattle.std.specs.declared.vec.Vec.{Vec}
use Rattle.pj_part.specs.declared.part.Part.{Part}

module _ {B : Type 0} {X Y Z : Type 0} where
  -- the parts in a list that may be there
  abbrev pub parts_in : Option (Arc (Vec (Arc (Part B) X) Y) Z) → List (Part B)
  parts_in None = []
  parts_in (Some shared) = map (λ part. arc_value part) (arc_value shared).items
