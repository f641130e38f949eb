use Rattle.std.proofs.Common.{◌≡◌, Some, map, take}
use Rattle.pj_bind.specs.Queries.{all_of, key_of}
use Rattle.pj_bind.proofs.queries.keys_of.Given as goal

abbrev pub invariant-keys : goal.invariant-keys
invariant-keys l = all_of (map (key_of l.columns l.items) (take l.key-index l.order)) ≡ Some l.found.items
