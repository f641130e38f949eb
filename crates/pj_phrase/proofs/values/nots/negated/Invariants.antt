use Rattle.std.proofs.Common.{◌≡◌, ◌-◌, replicate}
use Rattle.pj_grammar.specs.grammar.Values.{negated}
use Rattle.pj_phrase.proofs.values.nots.negated.Given as goal

abbrev pub invariant-nots : goal.invariant-nots
invariant-nots l = negated (replicate (l.count - l._i) tt) l.tree ≡ negated (replicate l.count tt) l.fn.tree
