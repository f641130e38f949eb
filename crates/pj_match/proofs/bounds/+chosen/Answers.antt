use Rattle.std.specs.Option.{option_map}
use Rattle.pj_value.specs.Values.{value_of}
use Rattle.pj_match.specs.Ranges.{turned, literal, bound_by, bounds}
use Rattle.pj_match.proofs.BoundLemmas.{bounds-All, bounds-Compare, bounds-And, bounds-Or, bounds-Not}
use Rattle.pj_match.proofs.ChosenLemmas.{takes-none, takes-append}
use Rattle.pj_match.proofs.bounds.+chosen.Goals as goal

pub returns-in-All : goal.returns-in-All
returns-in-All t c = rw (c.in-All.is, bounds-All) (takes-none c.args.side c.args.component.now)

pub returns-in-Compare : goal.returns-in-Compare
returns-in-Compare t c =
    rw (c.in-Compare.is, bounds-Compare c.in-Compare.op c.in-Compare.a c.in-Compare.b, c.either.ensures)
    (takes-append c.args.side c.args.component.now
    (bound_by c.in-Compare.a c.in-Compare.op (literal c.in-Compare.b))
    (bound_by c.in-Compare.b (turned c.in-Compare.op) (literal c.in-Compare.a))
    (option_map value_of c.literal_of-left.result) (option_map value_of c.literal_of-right.result)
    c.literal_of-left.ensures (rw c.turned.ensures at c.literal_of-right.ensures))

pub returns-in-And : goal.returns-in-And
returns-in-And t c =
    rw (c.in-And.is, bounds-And c.in-And.a c.in-And.b, c.either-in-And.ensures)
    (takes-append c.args.side c.args.component.now (bounds c.in-And.a) (bounds c.in-And.b)
    (option_map value_of c.chosen-left.result) (option_map value_of c.chosen-right.result)
    (rw c.get.ensures at c.chosen-left.ensures) (rw c.get-in-And.ensures at c.chosen-right.ensures))

pub returns-in-Or : goal.returns-in-Or
returns-in-Or t c = rw (c.in-Or.is, bounds-Or) (takes-none c.args.side c.args.component.now)

pub returns-in-Not : goal.returns-in-Not
returns-in-Not t c = rw (c.in-Not.is, bounds-Not) (takes-none c.args.side c.args.component.now)
