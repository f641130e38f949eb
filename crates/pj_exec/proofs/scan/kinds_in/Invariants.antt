use Rattle.std.proofs.Common.{◌≡◌, take}
use Rattle.pj_expr.specs.Tables.{kinds_of}
use Rattle.pj_part.specs.Formed.{kinds_at}
use Rattle.pj_exec.proofs.scan.kinds_in.Given as goal

abbrev pub invariant-picks : goal.invariant-picks
invariant-picks l = record {
  kinds : l.kinds.items ≡ kinds_at (kinds_of l.table) (take l.at-index l.columns);
}
