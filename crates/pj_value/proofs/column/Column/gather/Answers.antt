use Rattle.std.proofs.Common.{[], ap}
use Rattle.std.proofs.lemmas.List.{length-map}
use Rattle.pj_value.specs.declared.value.Kind.TheVariants as kinds
use Rattle.pj_value.specs.declared.value.Value.TheVariants as values
use Rattle.pj_value.proofs.ColumnLemmas.{values_at-map}
use Rattle.pj_value.proofs.FitsLemmas.{AreBytes-at}
use Rattle.pj_value.proofs.column.Column.gather.Goals as goal
use Rattle.pj_value.proofs.column.Column.gather.Goals.{in-Num+in_ok-numbers_at-in-Num}
use Rattle.pj_value.proofs.column.Column.gather.Goals.{in-Text+in_ok-texts_at-in-Text}

pub invariant_of-result : goal.invariant_of-result
invariant_of-result c = elim c.match-self.branch [
  | in-Num+in_ok-numbers_at-in-Num w ↦ rw w.items-is tt
  | in-Text+in_ok-texts_at-in-Text w ↦
      rw (w.items-is, w.in_ok-texts_at-in-Text.ensures, w.as_slice-in-Text.ensures.value)
      (AreBytes-at w.in-Text.texts.items c.args.indexes.now (rw w.in-Text.is at c.self.invariant)
      (rw (← c.self.view_is, w.in-Text.is, length-map) at c.requires))
]

pub returns : goal.returns
returns c = elim c.match-self.branch [
  | in-Num+in_ok-numbers_at-in-Num w ↦
      rw (
        w.items-is,
        ← c.self.view_is,
        w.in-Num.is,
        w.in_ok-numbers_at-in-Num.ensures,
        w.as_slice.ensures.value,
      )
      (ap (λ vs. record { kind = kinds.Num; values = vs })
      (values_at-map (λ n. values.Num n) w.in-Num.numbers.items 0 c.args.indexes.now
      (rw (← c.self.view_is, w.in-Num.is, length-map) at c.requires)))
  | in-Text+in_ok-texts_at-in-Text w ↦
      rw (
        w.items-is,
        ← c.self.view_is,
        w.in-Text.is,
        w.in_ok-texts_at-in-Text.ensures,
        w.as_slice-in-Text.ensures.value,
      )
      (ap (λ vs. record { kind = kinds.Text; values = vs })
      (values_at-map (λ t. values.Text t) w.in-Text.texts.items [] c.args.indexes.now
      (rw (← c.self.view_is, w.in-Text.is, length-map) at c.requires)))
]
