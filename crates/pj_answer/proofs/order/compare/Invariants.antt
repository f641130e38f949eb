use Rattle.std.proofs.Common.{◌≡◌, [], drop, get_or}
use Rattle.pj_answer.specs.Rows.{keys_cmp}
use Rattle.pj_answer.proofs.order.compare.Given as goal

abbrev pub invariant-loop-at : goal.invariant-loop-at
invariant-loop-at l =
    keys_cmp l.keys 0 (get_or l.rows.rows l.a []) (get_or l.rows.rows l.b [])
    ≡ keys_cmp (drop l.at l.keys) l.at (get_or l.rows.rows l.a []) (get_or l.rows.rows l.b [])
