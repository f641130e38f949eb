use Rattle.std.proofs.Common.{◌≤◌, ◌-◌, length, take}
use Rattle.pj_value.specs.Escaping.{Spells}
use Rattle.pj_value.proofs.escaping.unescape.Given as goal

abbrev pub invariant-pieces : goal.invariant-pieces
invariant-pieces l = record {
  inside : l.at ≤ length l.text;
  spelled : Spells (take l.at l.text) l.read.items;
}

abbrev pub decreases-pieces : goal.decreases-pieces
decreases-pieces l = length l.text - l.at
