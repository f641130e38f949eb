use Rattle.std.proofs.Common.{◌≡◌, ◌-◌}
use Rattle.pj_grammar.specs.parsing.Values.{value_at}
use Rattle.pj_grammar.specs.parsing.Statements.{assign_at, assigns_at}
use Rattle.pj_phrase.proofs.ManyLoop.{list_going}
use Rattle.pj_sentence.proofs.actions.assigns.Given as goal

abbrev pub invariant-assigns : goal.invariant-assigns
invariant-assigns l =
    list_going (assign_at (value_at l.most)) l.assigns.items (l._i-end - l._i) l.rest
    ≡ assigns_at (value_at l.most) l.fn.rest
