use Rattle.std.proofs.Common.{◌≡◌, length, take}
use Rattle.pj_layout.specs.Granules.{joined, text_ends}
use Rattle.pj_layout.proofs.writing.ends_of.Given as goal

abbrev pub invariant-texts : goal.invariant-texts
invariant-texts l = record {
  ends : l.ends.items ≡ text_ends (take l.text-index l.texts);
  end : l.end ≡ length (joined (take l.text-index l.texts));
}
