use Rattle.std.proofs.Common.{◌≡◌, take}
use Rattle.pj_bind.specs.Tables.{key_of}
use Rattle.pj_bind.proofs.tables.key_of.Given as goal

abbrev pub invariant-names : goal.invariant-names
invariant-names l = l.numbers.items ≡ key_of l.columns (take l.name-index l.key)
