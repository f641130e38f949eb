use Rattle.std.proofs.Common.{◌≡◌, replicate}
use Rattle.pj_block.proofs.compare.repeated.Given as goal

abbrev pub invariant-loop-at : goal.invariant-loop-at
invariant-loop-at l = l.copies.items ≡ replicate l._at l.text
