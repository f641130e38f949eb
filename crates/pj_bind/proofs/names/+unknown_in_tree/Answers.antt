use Rattle.std.proofs.Common.{List, Bor, sym, ap, ◌∙◌}
use Rattle.pj_value.specs.declared.text.Text.{Text}
use Rattle.pj_bind.specs.Names.{Name, names_in, first_unknown}
use Rattle.pj_bind.specs.Filling.{column_names}
use Rattle.pj_bind.proofs.NameLemmas.{names_in-Pair, first_unknown-append}
use Rattle.pj_bind.proofs.names.+unknown_in_tree.Goals as goal

pub returns-in-Pair : goal.returns-in-Pair
returns-in-Pair t c =
    let known : List Name = column_names c.args.columns.now in
    let a = c.in-Pair.a in
    let b = c.in-Pair.b in
    let view : Bor Text → Name = λ name. name.now in
    first_unknown-append view known (names_in a) (names_in b) _ _ _ c.or.ensures
    (c.unknown_in_tree-first.ensures ∙ ap (λ tree. first_unknown known (names_in tree)) c.get-in-Pair.ensures)
    (c.unknown_in_tree-in-Pair.ensures
    ∙ ap (λ tree. first_unknown known (names_in tree)) c.get-in-Pair-2.ensures)
    ∙ ap (first_unknown known) (sym (ap names_in c.in-Pair.is ∙ names_in-Pair _ a b))
