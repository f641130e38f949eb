use Rattle.std.proofs.Common.{◌≡◌, ◌≤◌, ◌-◌, ◌++◌, length, take}
use Rattle.pj_value.specs.Escaping.{escaped}
use Rattle.pj_value.proofs.escaping.escape_pieces.Given as goal

abbrev pub invariant-pieces : goal.invariant-pieces
invariant-pieces l = record {
  inside : l.at ≤ length l.text;
  written : l.out.items ≡ l.initial.out.items ++ escaped (take l.at l.text);
}

abbrev pub decreases-pieces : goal.decreases-pieces
decreases-pieces l = length l.text - l.at
