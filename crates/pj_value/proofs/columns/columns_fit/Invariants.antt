use Rattle.std.proofs.Common.{take}
use Rattle.std.specs.List.{All, AllByRecursion}
use Rattle.pj_value.specs.Values.{Fits}
use Rattle.pj_value.proofs.columns.columns_fit.Given as goal

abbrev pub invariant-loop-column : goal.invariant-loop-column
invariant-loop-column l = All (λ c. AllByRecursion Fits c.values) (take l.column-index l.columns)
