use Rattle.std.proofs.Common.{◌≡◌, length, ap, sym, ◌∙◌, subst}
use Rattle.std.specs.List.{AllZip}
use Rattle.std.proofs.lemmas.List.{length-map}
use Rattle.pj_value.specs.Columns.{KindedValues}
use Rattle.pj_value.specs.Rows.{rows_at}
use Rattle.pj_value.specs.Summaries.{Stands}
use Rattle.pj_agg.specs.Groups.{added}
use Rattle.pj_group.specs.Standing.{arguments}
use Rattle.pj_group.proofs.SlotLemmas.{AreStates-added, length-arguments}
use Rattle.pj_group.proofs.slots.add_arguments.Goals as goal

pub returns-in_ok-add-in-Some : goal.returns-in_ok-add-in-Some
returns-in_ok-add-in-Some c = λ old a.
    let kinds = c.args.rows.now.kinds in
    let call = c.args.call.now in
    let ns = c.args.numbers.now.groups.items in
    let rows = rows_at c.args.rows.now.rows c.args.kept.now.indexes.items in
    let before = c.args.states.now in
    let after = c.add.new.self in
    let vs : c.as_column.result.now.values ≡ arguments call.argument rows =
    ap (λ (k : KindedValues). k.values) (c.as_column.ensures ∙ c.in_ok-values-in-Some.ensures)
    ∙ ap (λ argument. arguments argument rows) (sym c.in-Some.is) in
    AreStates-added kinds call old ns rows before after c.in_ok-add-in-Some.ensures.agg
    c.in_ok-add-in-Some.ensures.kind
    (λ groups s.
    subst (λ ws. AllZip (Stands before.agg) after.summaries (added groups ns ws)) vs
    (subst (λ ms. AllZip (Stands before.agg) after.summaries (added groups ms c.as_column.result.now.values))
    c.as_slice.ensures.value (c.in_ok-add-in-Some.ensures.added groups s)))
    a

pub returns-in-None : goal.returns-in-None
returns-in-None c = λ old a.
    let kinds = c.args.rows.now.kinds in
    let call = c.args.call.now in
    let ns = c.args.numbers.now.groups.items in
    let rows = rows_at c.args.rows.now.rows c.args.kept.now.indexes.items in
    let before = c.args.states.now in
    let after = c.count.new.self in
    let vs = arguments call.argument rows in
    let many : length vs ≡ length c.as_slice-in-None.result.now =
    length-arguments call.argument rows ∙ length-map c.args.kept.now.indexes.items _ ∙ sym c.requires.len
    ∙ sym (ap length c.as_slice-in-None.ensures.value) in
    AreStates-added kinds call old ns rows before after c.count.ensures.agg c.count.ensures.kind
    (λ groups s.
    subst (λ ms. AllZip (Stands before.agg) after.summaries (added groups ms vs))
    c.as_slice-in-None.ensures.value (c.count.ensures.counted groups vs many s))
    a
