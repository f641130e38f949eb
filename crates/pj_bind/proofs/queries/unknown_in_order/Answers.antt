use Rattle.std.proofs.Common.{arith}
use Rattle.pj_grammar.specs.declared.types.TreeOrder.{TreeOrder}
use Rattle.pj_bind.specs.Filling.{column_names}
use Rattle.pj_bind.specs.Queries.{names_of_key}
use Rattle.pj_bind.proofs.QueryLemmas.{unknown-here, unknown-more}
use Rattle.pj_bind.proofs.queries.unknown_in_order.Goals as goal

pub returns-in-Some : goal.returns-in-Some
returns-in-Some c =
    unknown-here (column_names c.args.columns.now)
    (λ (key : TreeOrder). names_of_key c.args.items.now key.item)
    c.args.order.now c.keys.key-index c.key-item.result (omega arith) c.key-item.is c.keys.invariant
    c.in-Some.name.now c.in-Some.ensures

pub keys-preserved : goal.keys-preserved
keys-preserved c =
    unknown-more (column_names c.args.columns.now)
    (λ (key : TreeOrder). names_of_key c.args.items.now key.item)
    c.args.order.now c.keys.key-index c.key-item.result (omega arith) c.key-item.is c.keys.invariant
    c.in_default.ensures
