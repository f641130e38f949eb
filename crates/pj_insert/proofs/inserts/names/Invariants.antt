use Rattle.std.proofs.Common.{length}
use Rattle.pj_insert.specs.Inserts.{SpellsPrefix}
use Rattle.pj_grammar.specs.grammar.Words.{name, listed}
use Rattle.pj_insert.proofs.inserts.names.Given as goal

abbrev pub invariant-names : goal.invariant-names
invariant-names l = SpellsPrefix 0 (listed name) l.bytes l.names.items l.rest

abbrev pub decreases-names : goal.decreases-names
decreases-names l = length l.rest
