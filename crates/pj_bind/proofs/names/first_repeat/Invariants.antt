use Rattle.std.proofs.Common.{◌≡◌, List, ℕ, take}
use Rattle.std.specs.List.{list_any}
use Rattle.std.specs.Str.{bytes_eq}
use Rattle.std.specs.Ordering.{nat_cmp}
use Rattle.std.specs.Cmp.Lexicographic.{slice_cmp}
use Rattle.std.specs.BTreeSet.{contains_by}
use Rattle.pj_bind.specs.Names.{NoneRepeats}
use Rattle.pj_bind.proofs.names.first_repeat.Given as goal

abbrev pub invariant-names : goal.invariant-names
invariant-names l = record {
  once : NoneRepeats (take l.name-index l.names);
  seen : (q : List ℕ) → contains_by (λ k. slice_cmp nat_cmp q k.now) l.seen
      ≡ list_any (bytes_eq q) (take l.name-index l.names);
}
