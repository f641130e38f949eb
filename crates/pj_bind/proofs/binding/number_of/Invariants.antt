use Rattle.std.proofs.Common.{take}
use Rattle.pj_bind.specs.Binding.{IsUnknown}
use Rattle.pj_bind.proofs.binding.number_of.Given as goal

abbrev pub invariant-tables : goal.invariant-tables
invariant-tables l = IsUnknown (take l.number l.tables) l.name
