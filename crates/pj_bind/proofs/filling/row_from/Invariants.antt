use Rattle.std.proofs.Common.{◌≡◌, take}
use Rattle.pj_bind.specs.Sources.{filled_from}
use Rattle.pj_bind.proofs.filling.row_from.Given as goal

abbrev pub invariant-sources : goal.invariant-sources
invariant-sources l = l.values.items ≡ filled_from (take l.source-index l.sources) l.row
