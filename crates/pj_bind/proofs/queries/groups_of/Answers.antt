use Rattle.std.proofs.Common.{sym, ◌∙◌, arith}
use Rattle.pj_grammar.specs.declared.types.Tree.{Tree}
use Rattle.pj_bind.specs.Queries.{group_of, value_named}
use Rattle.pj_bind.proofs.QueryLemmas.{all_of-more, all_of-missing, all_of-whole}
use Rattle.pj_bind.proofs.queries.groups_of.Goals as goal

pub returns-in-None : goal.returns-in-None
returns-in-None c =
    all_of-missing (λ (tree : Tree). group_of c.args.columns.now (value_named c.args.items.now tree) tree)
    c.args.groups.now c.groups.tree-index c.tree-item.result (omega arith) c.tree-item.is
    (sym c.in-None.is ∙ c.in_ok-value.ensures)

pub groups-preserved : goal.groups-preserved
groups-preserved c =
    all_of-more (λ (tree : Tree). group_of c.args.columns.now (value_named c.args.items.now tree) tree)
    c.args.groups.now c.groups.tree-index c.tree-item.result (omega arith) c.tree-item.is
    c.groups.found.items c.push.new.self.items c.in-Some.value c.groups.invariant
    (sym c.in-Some.is ∙ c.in_ok-value.ensures) c.in_ok-push-in-Some.ensures.items

pub returns : goal.returns
returns c =
    rw c.from_vec.ensures
    (all_of-whole (λ (tree : Tree). group_of c.args.columns.now (value_named c.args.items.now tree) tree)
    c.args.groups.now c.groups.tree-index c.groups.found.items
    (omega arith) c.groups.invariant)
