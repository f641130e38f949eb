use Rattle.std.proofs.Common.{sym}
use Rattle.pj_group.proofs.numbers.number_of.Goals as goal

pub add_key-requires : goal.add_key-requires
add_key-requires c = rw c.in_ok-to_key-in-None.ensures (sym c.in-None.ensures.found)
