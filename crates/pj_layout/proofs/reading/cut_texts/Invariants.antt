use Rattle.std.proofs.Common.{◌≡◌, true, ◌∷◌, ◌++◌, length, drop}
use Rattle.pj_layout.specs.Damage.{never_fall, last_end}
use Rattle.pj_layout.specs.Reading.{texts_in}
use Rattle.pj_layout.proofs.reading.cut_texts.Given as goal

abbrev pub invariant-ends : goal.invariant-ends
invariant-ends l = record {
  cut : l.texts.items ++ texts_in l.from (drop l.end-index l.ends) (drop l.from l.bytes)
      ≡ texts_in 0 l.ends l.bytes;
  rise : never_fall (l.from ∷ drop l.end-index l.ends) ≡ true;
  last : last_end l.from (drop l.end-index l.ends) ≡ length l.bytes;
}
