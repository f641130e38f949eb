use Rattle.std.proofs.lemmas.List.{take-map}
use Rattle.pj_value.proofs.column.Column.truncate.Goals as goal
use Rattle.pj_value.proofs.column.Column.truncate.Goals.{in-Num, in-Text}

pub returns : goal.returns
returns c = elim c.match-self.branch [
  | in-Num w ↦
      rw (w.self-inside-is, ← c.self.view_is, w.in-Num.is, w.truncate.ensures.items, take-map)
  | in-Text w ↦
      rw (w.self-inside-is, ← c.self.view_is, w.in-Text.is, w.truncate-in-Text.ensures.items, take-map)
]
