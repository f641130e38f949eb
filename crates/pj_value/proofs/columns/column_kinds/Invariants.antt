use Rattle.std.proofs.Common.{◌≡◌, take}
use Rattle.std.specs.List.{All}
use Rattle.pj_value.specs.Columns.{AreOfKind, kinds_of}
use Rattle.pj_value.proofs.columns.column_kinds.Given as goal

abbrev pub invariant-loop-column : goal.invariant-loop-column
invariant-loop-column l = record {
  kinds_are : l.kinds.items ≡ kinds_of (take l.column-index l.columns);
  of_kind : All (λ c. AreOfKind c.kind c.values) (take l.column-index l.columns);
}
