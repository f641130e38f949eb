use Rattle.std.proofs.Common.{◌≡◌, take}
use Rattle.pj_bind.proofs.filling.rows_as_they_are.Given as goal

abbrev pub invariant-rows : goal.invariant-rows
invariant-rows l = l.made ≡ record { kinds = l.kinds; rows = take l.at l.rows }
