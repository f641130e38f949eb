use Rattle.std.proofs.Common.{◌≡◌, ◌++◌, [], take, get_or}
use Rattle.std.specs.List.{flat_map}
use Rattle.pj_legal.proofs.texts.RowTexts.{tabbed}
use Rattle.pj_legal.proofs.reply.put_row.Given as goal

abbrev pub invariant-columns : goal.invariant-columns
invariant-columns l = l.out.items ≡ l.fn.out.items ++ flat_map tabbed (take l.column
    (get_or l.rows.rows l.row []))
