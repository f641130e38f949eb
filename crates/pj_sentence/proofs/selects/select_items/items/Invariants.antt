use Rattle.std.proofs.Common.{◌≡◌, ◌-◌}
use Rattle.pj_grammar.specs.parsing.Values.{value_at}
use Rattle.pj_grammar.specs.parsing.Selects.{item_at, items_at}
use Rattle.pj_phrase.proofs.ManyLoop.{list_going}
use Rattle.pj_sentence.proofs.selects.select_items.items.Given as goal

abbrev pub invariant-items : goal.invariant-items
invariant-items l =
    list_going (item_at (value_at l.most)) l.items.items (l._i-end - l._i) l.rest
    ≡ items_at (value_at l.most) l.fn.rest
