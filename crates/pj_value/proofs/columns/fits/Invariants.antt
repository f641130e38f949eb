use Rattle.std.proofs.Common.{◌≡◌, length, map, take}
use Rattle.pj_value.specs.Values.{kind_of}
use Rattle.pj_value.proofs.columns.fits.Given as goal

abbrev pub invariant-loop-value : goal.invariant-loop-value
invariant-loop-value l = map kind_of (take (length l.yielded) l.row) ≡ take (length l.yielded) l.kinds
