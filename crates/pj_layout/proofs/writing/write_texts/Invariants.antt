use Rattle.std.proofs.Common.{◌≡◌, ◌++◌, take}
use Rattle.pj_layout.specs.Granules.{joined}
use Rattle.pj_layout.proofs.writing.write_texts.Given as goal

abbrev pub invariant-texts : goal.invariant-texts
invariant-texts l = l.out.items ≡ l.initial.out.items ++ joined (take l.text-index l.texts)
