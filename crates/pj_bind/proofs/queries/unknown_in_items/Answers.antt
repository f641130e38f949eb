use Rattle.std.proofs.Common.{arith}
use Rattle.pj_grammar.specs.declared.types.Listed.{Listed}
use Rattle.pj_bind.specs.Filling.{column_names}
use Rattle.pj_bind.specs.Queries.{names_of_item}
use Rattle.pj_bind.proofs.QueryLemmas.{unknown-here, unknown-more}
use Rattle.pj_bind.proofs.queries.unknown_in_items.Goals as goal

pub returns-in-Some : goal.returns-in-Some
returns-in-Some c =
    unknown-here (column_names c.args.columns.now) (λ (i : Listed). names_of_item i.item)
    c.args.items.now c.items.item-index c.item-item.result (omega arith) c.item-item.is c.items.invariant
    c.in-Some.name.now c.in-Some.ensures

pub items-preserved : goal.items-preserved
items-preserved c =
    unknown-more (column_names c.args.columns.now) (λ (i : Listed). names_of_item i.item)
    c.args.items.now c.items.item-index c.item-item.result (omega arith) c.item-item.is c.items.invariant
    c.in_default.ensures
