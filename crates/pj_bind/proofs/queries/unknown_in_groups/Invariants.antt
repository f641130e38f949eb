use Rattle.std.proofs.Common.{◌≡◌, None, take}
use Rattle.std.specs.List.{flat_map}
use Rattle.pj_bind.specs.Names.{first_unknown}
use Rattle.pj_bind.specs.Filling.{column_names}
use Rattle.pj_bind.specs.Queries.{names_of_group}
use Rattle.pj_bind.proofs.queries.unknown_in_groups.Given as goal

abbrev pub invariant-groups : goal.invariant-groups
invariant-groups l =
    first_unknown (column_names l.columns) (flat_map (names_of_group l.items) (take l.tree-index l.groups))
    ≡ None
