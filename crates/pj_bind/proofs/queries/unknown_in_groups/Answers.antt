use Rattle.std.proofs.Common.{arith}
use Rattle.pj_bind.specs.Filling.{column_names}
use Rattle.pj_bind.specs.Queries.{names_of_group}
use Rattle.pj_bind.proofs.QueryLemmas.{unknown-here, unknown-more}
use Rattle.pj_bind.proofs.queries.unknown_in_groups.Goals as goal

pub returns-in-Some : goal.returns-in-Some
returns-in-Some c =
    unknown-here (column_names c.args.columns.now) (names_of_group c.args.items.now)
    c.args.groups.now c.groups.tree-index c.tree-item.result (omega arith) c.tree-item.is c.groups.invariant
    c.in-Some.name.now c.in-Some.ensures

pub groups-preserved : goal.groups-preserved
groups-preserved c =
    unknown-more (column_names c.args.columns.now) (names_of_group c.args.items.now)
    c.args.groups.now c.groups.tree-index c.tree-item.result (omega arith) c.tree-item.is c.groups.invariant
    c.in_default.ensures
