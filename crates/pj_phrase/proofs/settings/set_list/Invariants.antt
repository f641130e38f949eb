use Rattle.std.proofs.Common.{◌≡◌, ◌-◌}
use Rattle.pj_grammar.specs.parsing.Settings.{set_at, set_list_at}
use Rattle.pj_phrase.proofs.ManyLoop.{list_going}
use Rattle.pj_phrase.proofs.settings.set_list.Given as goal

abbrev pub invariant-sets : goal.invariant-sets
invariant-sets l =
    list_going set_at l.sets.items (l._i-end - l._i) l.rest ≡ set_list_at l.fn.rest
