use Rattle.std.proofs.Common.{◌≡◌, None, take}
use Rattle.std.specs.List.{flat_map}
use Rattle.pj_bind.specs.Names.{first_unknown}
use Rattle.pj_bind.specs.Filling.{column_names}
use Rattle.pj_bind.specs.Queries.{names_of_item}
use Rattle.pj_bind.proofs.queries.unknown_in_items.Given as goal

abbrev pub invariant-items : goal.invariant-items
invariant-items l =
    first_unknown (column_names l.columns) (flat_map (λ i. names_of_item i.item) (take l.item-index l.items))
    ≡ None
