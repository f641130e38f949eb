use Rattle.std.proofs.Common.{◌≡◌, length}
use Rattle.pj_insert.specs.Inserts.{SpellsPrefix}
use Rattle.pj_grammar.specs.grammar.Words.{listed}
use Rattle.pj_grammar.specs.grammar.Statements.{literal}
use Rattle.pj_insert.proofs.inserts.literals.Given as goal

abbrev pub invariant-values : goal.invariant-values
invariant-values l =
    record {
      read : SpellsPrefix l.most (listed literal) l.fn.bytes l.rows.begun l.rest;
      whole : l.rows.whole ≡ l.fn.rows.whole;
    }

abbrev pub decreases-values : goal.decreases-values
decreases-values l = length l.rest
