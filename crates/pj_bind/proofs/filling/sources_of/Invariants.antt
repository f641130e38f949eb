use Rattle.std.proofs.Common.{◌≡◌, map, take}
use Rattle.pj_bind.specs.Sources.{source_of}
use Rattle.pj_bind.proofs.filling.sources_of.Given as goal

abbrev pub invariant-columns : goal.invariant-columns
invariant-columns l = l.sources.items ≡ map (source_of l.names) (take l.column-index l.columns)
