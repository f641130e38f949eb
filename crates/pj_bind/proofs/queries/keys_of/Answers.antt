use Rattle.std.proofs.Common.{sym, ◌∙◌, arith}
use Rattle.pj_bind.specs.Queries.{key_of}
use Rattle.pj_bind.proofs.QueryLemmas.{all_of-more, all_of-missing, all_of-whole}
use Rattle.pj_bind.proofs.queries.keys_of.Goals as goal

pub returns-in-None : goal.returns-in-None
returns-in-None c =
    all_of-missing (key_of c.args.columns.now c.args.items.now) c.args.order.now c.keys.key-index
    c.key-item.result (omega arith) c.key-item.is (sym c.in-None.is ∙ c.in_ok-key.ensures)

pub keys-preserved : goal.keys-preserved
keys-preserved c =
    all_of-more (key_of c.args.columns.now c.args.items.now) c.args.order.now c.keys.key-index
    c.key-item.result (omega arith) c.key-item.is c.keys.found.items c.push.new.self.items c.in-Some.key
    c.keys.invariant (sym c.in-Some.is ∙ c.in_ok-key.ensures) c.in_ok-push-in-Some.ensures.items

pub returns : goal.returns
returns c =
    rw c.from_vec.ensures
    (all_of-whole (key_of c.args.columns.now c.args.items.now) c.args.order.now c.keys.key-index c.keys.found.items
    (omega arith) c.keys.invariant)
