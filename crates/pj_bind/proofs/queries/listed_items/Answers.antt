use Rattle.std.proofs.Common.{sym, ◌∙◌, arith}
use Rattle.pj_grammar.specs.declared.types.Listed.{Listed}
use Rattle.pj_bind.specs.Queries.{item_of}
use Rattle.pj_bind.proofs.QueryLemmas.{all_of-more, all_of-missing, all_of-whole}
use Rattle.pj_bind.proofs.queries.listed_items.Goals as goal

pub returns-in-None : goal.returns-in-None
returns-in-None c =
    all_of-missing (λ (i : Listed). item_of c.args.columns.now i.item) c.args.items.now c.items.listed-index
    c.listed-item.result (omega arith) c.listed-item.is (sym c.in-None.is ∙ c.in_ok-item.ensures)

pub items-preserved : goal.items-preserved
items-preserved c =
    all_of-more (λ (i : Listed). item_of c.args.columns.now i.item) c.args.items.now c.items.listed-index
    c.listed-item.result (omega arith) c.listed-item.is c.items.found.items
    c.push.new.self.items c.in-Some.item c.items.invariant
    (sym c.in-Some.is ∙ c.in_ok-item.ensures) c.in_ok-push-in-Some.ensures.items

pub returns : goal.returns
returns c =
    rw c.from_vec.ensures
    (all_of-whole (λ (i : Listed). item_of c.args.columns.now i.item) c.args.items.now c.items.listed-index c.items.found.items
    (omega arith) c.items.invariant)
