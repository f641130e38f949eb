use Rattle.std.proofs.Common.{◌≡◌, None, take}
use Rattle.std.specs.List.{flat_map}
use Rattle.pj_bind.specs.Names.{first_unknown}
use Rattle.pj_bind.specs.Filling.{column_names}
use Rattle.pj_bind.specs.Queries.{names_of_key}
use Rattle.pj_bind.proofs.queries.unknown_in_order.Given as goal

abbrev pub invariant-keys : goal.invariant-keys
invariant-keys l =
    first_unknown (column_names l.columns)
    (flat_map (λ key. names_of_key l.items key.item) (take l.key-index l.order))
    ≡ None
