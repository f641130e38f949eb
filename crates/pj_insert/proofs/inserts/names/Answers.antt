use Rattle.pj_insert.proofs.PrefixLemmas.{listed_one, listed_more}
use Rattle.pj_insert.proofs.inserts.names.Goals as goal

pub names-init : goal.names-init
names-init c =
    rw (c.in_ok-push.ensures.items, c.new-names.ensures.items, c.in_ok-new.ensures)
    (listed_one c.in-Some.ensures)

pub names-preserved : goal.names-preserved
names-preserved c =
    rw (c.in_ok-push-2.ensures.items, c.in_ok-new-2.ensures)
    (listed_more c.names.invariant c.in-Some-first_comma.ensures c.in-Some-name.ensures)
