use Rattle.std.proofs.Common.{drop}
use Rattle.pj_match.specs.Ranges.{bounds}
use Rattle.pj_match.proofs.RangeLemmas.{Leaves}
use Rattle.pj_match.proofs.range.range_of.Given as goal

abbrev pub invariant-components : goal.invariant-components
invariant-components l =
    Leaves (bounds l.filter) l.key (drop l.component-index l.key) l.low.items l.high.items
