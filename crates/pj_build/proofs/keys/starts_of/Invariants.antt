use Rattle.std.proofs.Common.{◌≡◌, ◌*◌, map}
use Rattle.std.specs.List.{range_with_len}
use Rattle.pj_build.proofs.keys.starts_of.Given as goal

abbrev pub invariant-granules : goal.invariant-granules
invariant-granules l = l.starts.items ≡ map (λ at. at * l.granularity) (range_with_len 0 l.at)
