use Rattle.std.proofs.Common.{◌≡◌, ◌-◌}
use Rattle.pj_grammar.specs.parsing.Values.{value_at}
use Rattle.pj_grammar.specs.parsing.Selects.{order_key_at, order_keys_at}
use Rattle.pj_phrase.proofs.ManyLoop.{list_going}
use Rattle.pj_sentence.proofs.selects.clauses.order_keys.Given as goal

abbrev pub invariant-keys : goal.invariant-keys
invariant-keys l =
    list_going (order_key_at (value_at l.most)) l.keys.items (l._i-end - l._i) l.rest
    ≡ order_keys_at (value_at l.most) l.fn.rest
