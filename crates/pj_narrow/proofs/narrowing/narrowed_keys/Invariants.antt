use Rattle.std.proofs.Common.{◌≡◌, map, take}
use Rattle.pj_narrow.specs.Narrowing.{narrowed_key}
use Rattle.pj_narrow.proofs.narrowing.narrowed_keys.Given as goal

abbrev pub invariant-keys : goal.invariant-keys
invariant-keys l = l.narrow.items ≡ map (narrowed_key l.columns) (take l.key-index l.keys)
