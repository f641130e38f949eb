use Rattle.std.proofs.Common.{[], ◌∷◌, ◌++◌, map}
use Rattle.pj_group.specs.Indexes.{key_values, is_before}
use Rattle.pj_group.proofs.LeastLemmas.{KeepsFirst-push, KeepsFirst-cut}
use Rattle.pj_group.proofs.OrderLemmas.{indexes_ranked}
use Rattle.pj_group.proofs.least.best_with.Goals as goal

pub returns-then-len-room : goal.returns-then-len-room
returns-then-len-room c = λ seen h.
    let keys = map key_values c.args.keys.now in
    rw c.in_ok-push.ensures.items
    (KeepsFirst-push (is_before keys) (indexes_ranked keys) c.args.most seen c.args.best.indexes.items
    c.args.best.worst c.args.at h)

pub returns-in_ok-first : goal.returns-in_ok-first
returns-in_ok-first c = λ seen h.
    let keys = map key_values c.args.keys.now in
    let before = is_before keys in
    let most = c.args.most in
    let at = c.args.at in
    let kept = c.args.best.indexes.items in
    let out = c.in_ok-first.first in
    KeepsFirst-cut before (indexes_ranked keys) most (seen ++ at ∷ []) (kept ++ at ∷ []) out.indexes.items
    c.args.best.worst out.worst
    (KeepsFirst-push before (indexes_ranked keys) most seen kept c.args.best.worst at h)
    (rw c.in_ok-push.ensures.items at c.in_ok-first.ensures.first) c.in_ok-first.ensures.worst
