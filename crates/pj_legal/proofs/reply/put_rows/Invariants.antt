use Rattle.std.proofs.Common.{◌≡◌, ◌++◌, map, take}
use Rattle.std.specs.List.{flat_map}
use Rattle.pj_legal.specs.Texts.{row_text, as_line}
use Rattle.pj_legal.proofs.reply.put_rows.Given as goal

abbrev pub invariant-rows : goal.invariant-rows
invariant-rows l = l.out.items ≡ l.fn.out.items ++ flat_map as_line (map row_text (take l.row l.rows.rows))
