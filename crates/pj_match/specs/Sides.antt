-- The sides of a range as the code names them. No public contract cites this file.
use Rattle.std.specs.Prelude.{Bool, Option, Some, None}
use Rattle.pj_value.specs.declared.value.Value.{Value}
use Rattle.pj_value.specs.Aggregates.{lesser, greater}
use Rattle.pj_expr.specs.declared.cond.Op.{Op}
use Rattle.pj_match.specs.declared.sides.Side.{Side}
use Rattle.pj_match.specs.declared.sides.Side.TheVariants as sides
use Rattle.pj_match.specs.Ranges.{fixes, bounds_below, bounds_above, former}

-- the comparisons whose literals a side takes
abbrev pub serves : Side → Op → Bool
serves sides.Both op = fixes op
serves sides.Low op = bounds_below op
serves sides.High op = bounds_above op

-- which of two literals it takes
abbrev pub choice : Side → Value → Value → Value
choice sides.Both a b = former a b
choice sides.Low a b = greater a b
choice sides.High a b = lesser a b

-- of one, or of none
abbrev pub either : Side → Option Value → Option Value → Option Value
either side None b = b
either side (Some a) None = Some a
either side (Some a) (Some b) = Some (choice side a b)
