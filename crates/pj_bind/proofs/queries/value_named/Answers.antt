use Rattle.std.proofs.Common.{◌≡◌, Some, ◌&&◌, ap, ◌∙◌, rules, tests}
use Rattle.std.specs.Option.{option_and_then}
use Rattle.std.specs.List.{find}
use Rattle.std.proofs.lemmas.Iterator.{YieldsList-from_slice}
use Rattle.std.proofs.lemmas.Iterator.Search.{find_from_yields_List}
use Rattle.pj_grammar.specs.declared.types.Listed.{Listed}
use Rattle.pj_bind.specs.Names.{Name}
use Rattle.pj_bind.specs.Queries.{has_alias, is_value, lone_name}
use Rattle.pj_bind.proofs.queries.value_named.Goals as goal

pub returns : goal.returns
returns c =
    let name : Name = c.in_ok-name.name.now in
    let alone : Some name ≡ lone_name c.args.tree.now = c.in_ok-name.ensures in
    find_from_yields_List (λ (i : Listed). has_alias name i && is_value i.item) _ _ c.find.result
    c.find.ensures.ran
    (YieldsList-from_slice {s = c.iter.result} c.args.items.now (cc)) (λ x b q k. search (rules, tests))
    ∙ ap (option_and_then (λ (n : Name). find (λ i. has_alias n i && is_value i.item) c.args.items.now)) alone
