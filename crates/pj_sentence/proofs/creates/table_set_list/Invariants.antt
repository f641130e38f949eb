use Rattle.std.proofs.Common.{◌≡◌, ◌-◌}
use Rattle.pj_grammar.specs.parsing.Settings.{table_set_at}
use Rattle.pj_grammar.specs.parsing.Tables.{table_set_list_at}
use Rattle.pj_phrase.proofs.ManyLoop.{list_going}
use Rattle.pj_sentence.proofs.creates.table_set_list.Given as goal

abbrev pub invariant-sets : goal.invariant-sets
invariant-sets l =
    list_going table_set_at l.sets.items (l._i-end - l._i) l.rest ≡ table_set_list_at l.fn.rest
