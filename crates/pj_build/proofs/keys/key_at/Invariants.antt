use Rattle.std.proofs.Common.{◌≡◌, [], get_or, take}
use Rattle.pj_value.specs.Order.{key_of}
use Rattle.pj_build.proofs.keys.key_at.Given as goal

abbrev pub invariant-columns : goal.invariant-columns
invariant-columns l = l.values.items ≡ key_of (take l.column-index l.key) (get_or l.rows.rows l.at [])
