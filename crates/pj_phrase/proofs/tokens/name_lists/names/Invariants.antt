use Rattle.std.proofs.Common.{◌≡◌, ◌-◌}
use Rattle.pj_grammar.specs.parsing.Words.{name_at}
use Rattle.pj_grammar.specs.parsing.Tables.{names_at}
use Rattle.pj_phrase.proofs.ManyLoop.{list_going}
use Rattle.pj_phrase.proofs.tokens.name_lists.names.Given as goal

abbrev pub invariant-names : goal.invariant-names
invariant-names l =
    list_going name_at l.names.items (l._i-end - l._i) l.rest ≡ names_at l.fn.rest
