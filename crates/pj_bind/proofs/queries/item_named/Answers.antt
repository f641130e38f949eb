use Rattle.std.proofs.Common.{◌≡◌, Some, ap, ◌∙◌, rules, tests}
use Rattle.std.specs.Option.{option_and_then}
use Rattle.std.specs.List.{find}
use Rattle.std.proofs.lemmas.Iterator.{YieldsList-from_slice}
use Rattle.std.proofs.lemmas.Iterator.Search.{find_from_yields_List}
use Rattle.pj_bind.specs.Names.{Name}
use Rattle.pj_bind.specs.Queries.{has_alias, lone_name}
use Rattle.pj_bind.proofs.queries.item_named.Goals as goal

pub returns : goal.returns
returns c =
    let name : Name = c.in_ok-name.name.now in
    let alone : Some name ≡ lone_name c.args.tree.now = c.in_ok-name.ensures in
    find_from_yields_List (has_alias name) _ _ c.find.result c.find.ensures.ran
    (YieldsList-from_slice {s = c.iter.result} c.args.items.now (cc)) (λ x b q k. search (rules, tests))
    ∙ ap (option_and_then (λ (n : Name). find (has_alias n) c.args.items.now)) alone
