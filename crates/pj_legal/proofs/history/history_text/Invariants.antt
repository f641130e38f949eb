use Rattle.std.proofs.Common.{◌≡◌, ◌++◌, [], length, map, take, codes}
use Rattle.std.specs.Fmt.{decimal}
use Rattle.pj_journal.specs.History.{catalog}
use Rattle.pj_expr.specs.Tables.{names}
use Rattle.pj_legal.specs.Texts.{as_line, entries_text}
use Rattle.pj_legal.proofs.history.history_text.Given as goal

abbrev pub invariant-entries : goal.invariant-entries
invariant-entries l = record {
  tables : map (λ t. t.now) l.tables.items ≡ names (catalog (take l.at l.entries));
  text : l.out.items
      ≡ as_line (codes "history " ++ decimal (length l.entries)) ++ entries_text l.names []
      (take l.at l.entries);
}
