use Rattle.std.proofs.Common.{map}
use Rattle.pj_group.specs.Indexes.{key_values, is_before}
use Rattle.pj_group.proofs.LeastLemmas.{IsBehind-last}
use Rattle.pj_group.proofs.OrderLemmas.{indexes_ranked}
use Rattle.pj_group.proofs.least.cut.Goals as goal

pub returns-clause-worst : goal.returns-clause-worst
returns-clause-worst c =
    let keys = map key_values c.args.keys.now in
    let out = c.in_ok-indexes.indexes.items in
    let slice = c.as_slice.ensures.value in
    IsBehind-last (is_before keys) (indexes_ranked keys) c.args.most c.args.indexes.items out
    c.last_of-worst.result c.in_ok-indexes.ensures (rw (← slice) c.last_of-worst.ensures.last)
    (rw (← slice) c.last_of-worst.ensures.enough)
