use Rattle.std.proofs.Common.{◌≡◌, [], length}
use Rattle.pj_insert.specs.Inserts.{SpellsPrefix}
use Rattle.pj_grammar.specs.grammar.Words.{listed}
use Rattle.pj_grammar.specs.grammar.Statements.{row}
use Rattle.pj_insert.proofs.inserts.row_list.Given as goal

abbrev pub invariant-rows : goal.invariant-rows
invariant-rows l =
    record {
      read : SpellsPrefix l.most (listed row) l.fn.bytes l.rows.whole l.rest;
      begun : l.rows.begun
          ≡ [];
    }

abbrev pub decreases-rows : goal.decreases-rows
decreases-rows l = length l.rest
