use Rattle.pj_value.proofs.ColumnLemmas.{AreOfKind-kinded}
use Rattle.pj_value.proofs.FitsLemmas.{Fits-from_numbers, Fits-from_texts}
use Rattle.pj_value.proofs.column.Column.kind.Goals as goal

pub returns-in-Num-clause-of_kind : goal.returns-in-Num-clause-of_kind
returns-in-Num-clause-of_kind c = rw (← c.self.view_is) (AreOfKind-kinded c.self.inside.items)

pub returns-in-Num-clause-fits : goal.returns-in-Num-clause-fits
returns-in-Num-clause-fits c =
    rw (← c.self.view_is, c.in-Num.is)
    (Fits-from_numbers c.in-Num.numbers.items (rw c.as_slice.ensures.value at c.numbers_fit.ensures))

pub returns-in-Text-clause-of_kind : goal.returns-in-Text-clause-of_kind
returns-in-Text-clause-of_kind c = rw (← c.self.view_is) (AreOfKind-kinded c.self.inside.items)

pub returns-in-Text-clause-fits : goal.returns-in-Text-clause-fits
returns-in-Text-clause-fits c =
    rw (← c.self.view_is, c.in-Text.is)
    (Fits-from_texts c.in-Text.field-0.items (rw c.in-Text.is at c.self.invariant))
