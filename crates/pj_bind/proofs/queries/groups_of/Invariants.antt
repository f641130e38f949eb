use Rattle.std.proofs.Common.{◌≡◌, Some, map, take}
use Rattle.pj_bind.specs.Queries.{all_of, group_of, value_named}
use Rattle.pj_bind.proofs.queries.groups_of.Given as goal

abbrev pub invariant-groups : goal.invariant-groups
invariant-groups l =
    all_of (map (λ tree. group_of l.columns (value_named l.items tree) tree) (take l.tree-index l.groups))
    ≡ Some l.found.items
