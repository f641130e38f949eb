use Rattle.std.proofs.Common.{map, get_or}
use Rattle.std.proofs.lemmas.List.{take_all, take_more}
use Rattle.pj_group.specs.Indexes.{key_values, is_before}
use Rattle.pj_group.proofs.LeastLemmas.{KeepsFirst-behind, AreFirst-kept}
use Rattle.pj_group.proofs.OrderLemmas.{indexes_ranked}
use Rattle.pj_group.proofs.least.least_indexes.Goals as goal

pub loop-at-preserved-then-is_behind : goal.loop-at-preserved-then-is_behind
loop-at-preserved-then-is_behind c =
    let keys = map key_values c.args.keys.now in
    let indexes = c.args.indexes.now in
    let i = c.loop-at.at-index in
    rw (take_more indexes i 0 c.loop-at-test.true)
    (KeepsFirst-behind (is_before keys) (indexes_ranked keys) c.args.most _ c.loop-at.best.indexes.items
    c.loop-at.best.worst (get_or indexes i 0) c.loop-at.invariant (c.is_behind.ensures c.if-is_behind.true))

pub returns : goal.returns
returns c =
    let keys = map key_values c.args.keys.now in
    let indexes = c.args.indexes.now in
    let best = c.loop-at.best in
    let all = take_all c.loop-at.at-index indexes c.loop-at-test.false in
    AreFirst-kept (is_before keys) (indexes_ranked keys) c.args.most indexes best.indexes.items
    c.in_ok-first.first.items best.worst (rw all at c.loop-at.invariant) c.in_ok-first.ensures
