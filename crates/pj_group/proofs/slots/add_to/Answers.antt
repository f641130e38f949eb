use Rattle.pj_group.proofs.SlotLemmas.{slot-firsts, slot-states}
use Rattle.pj_value.specs.Rows.{rows_at}
use Rattle.pj_group.proofs.slots.add_to.Goals as goal

pub returns-in_ok-add_firsts-in-First : goal.returns-in_ok-add_firsts-in-First
returns-in_ok-add_firsts-in-First c = λ q old new of long grow slot.
    slot-firsts c.args.rows.now.kinds q c.args.item.now c.in-Plain.expr old new c.args.numbers.now
    (rows_at c.args.rows.now.rows c.args.kept.now.indexes.items) c.in-First.column c.add_firsts.new.column
    c.args.slot.now c.in-Plain.is c.in-First.is c.in_ok-add_firsts-in-First.ensures.kind
    c.in_ok-add_firsts-in-First.ensures.values of grow slot

pub returns-in_ok-add_arguments-in-States-slot : goal.returns-in_ok-add_arguments-in-States-slot
returns-in_ok-add_arguments-in-States-slot c = λ q old new of long grow slot.
    slot-states c.args.rows.now.kinds q c.args.item.now c.in-Agg.call old new c.args.numbers.now
    (rows_at c.args.rows.now.rows c.args.kept.now.indexes.items) c.args.groups c.in-States-slot.states
    c.grow.new.self c.add_arguments.new.states c.args.slot.now c.in-Agg.is c.in-States-slot.is long
    c.in_ok-grow-in-States-slot.ensures.agg c.in_ok-grow-in-States-slot.ensures.kind
    c.in_ok-grow-in-States-slot.ensures.grown c.in_ok-add_arguments-in-States-slot.ensures of grow slot
