use Rattle.std.proofs.Common.{take}
use Rattle.std.specs.List.{All}
use Rattle.pj_value.specs.NumberBytes.{AreBytes}
use Rattle.pj_value.proofs.column.texts_fit.Given as goal

abbrev pub invariant-loop-text : goal.invariant-loop-text
invariant-loop-text l = All AreBytes (take l.text-index l.texts)
