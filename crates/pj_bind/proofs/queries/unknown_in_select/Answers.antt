use Rattle.std.proofs.Common.{List, Bor}
use Rattle.std.specs.List.{flat_map}
use Rattle.pj_value.specs.declared.text.Text.{Text}
use Rattle.pj_bind.specs.Names.{Name}
use Rattle.pj_bind.specs.Filling.{column_names}
use Rattle.pj_bind.specs.Queries.{listed, names_of_item, names_of_filter, names_of_group, names_of_key}
use Rattle.pj_bind.proofs.NameLemmas.{first_unknown-append}
use Rattle.pj_bind.proofs.queries.unknown_in_select.Goals as goal

pub returns : goal.returns
returns c =
    let known : List Name = column_names c.args.columns.now in
    let view : Bor Text → Name = λ name. name.now in
    let select = c.args.select.now in
    let items = c.args.select.now.items in
    let e1 = rw c.listed-items.ensures at c.unknown_in_items-first.ensures in
    let e3 = rw (c.listed-items.ensures, c.as_slice.ensures) at c.unknown_in_groups-third.ensures in
    let e4 = rw (c.listed-items.ensures, c.as_slice-2.ensures) at c.unknown_in_order-fourth.ensures in
    first_unknown-append view known (flat_map (λ i. names_of_item i.item) (listed items)) _ _ _ _
    c.or-3.ensures e1
    (first_unknown-append view known (names_of_filter select.filter) _ _ _ _ c.or-2.ensures
    c.unknown_in_filter-second.ensures
    (first_unknown-append view known
    (flat_map (names_of_group (listed items)) select.groups)
    (flat_map (λ key. names_of_key (listed items) key.item) select.order)
    _ _ _ c.or.ensures e3 e4))
