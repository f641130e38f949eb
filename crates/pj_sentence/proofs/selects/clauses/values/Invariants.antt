use Rattle.std.proofs.Common.{◌≡◌, ◌-◌}
use Rattle.pj_grammar.specs.parsing.Values.{value_at}
use Rattle.pj_grammar.specs.parsing.Selects.{values_at}
use Rattle.pj_phrase.proofs.ManyLoop.{list_going}
use Rattle.pj_sentence.proofs.selects.clauses.values.Given as goal

abbrev pub invariant-values : goal.invariant-values
invariant-values l =
    list_going (value_at l.most) l.values.items (l._i-end - l._i) l.rest
    ≡ values_at (value_at l.most) l.fn.rest
