use Rattle.std.proofs.Common.{◌≡◌, ◌<◌, List, [], ◌∷◌, ◌++◌, length, map, take, sym, ap}
use Rattle.std.proofs.Common.{subst, ◌∙◌, arith}
use Rattle.std.proofs.lemmas.List.{map_more}
use Rattle.pj_value.specs.declared.value.Value.{Value}
use Rattle.pj_value.specs.Values.{kind_of}
use Rattle.pj_value.specs.Rows.{KindedRows}
use Rattle.pj_answer.specs.Answers.{item_kind}
use Rattle.pj_answer.specs.Rows.{of_kinds, item_row, HasShape}
use Rattle.pj_answer.proofs.rows.item_rows.Goals as goal

pub unreachable-requires : goal.unreachable-requires
unreachable-requires c =
    let items = c.args.items.now in
    let columns = c.args.kinds.now in
    let group = c.group-item.result in
    let inside : c.loop-group.group-index < length c.args.groups.now = omega arith in
    let shape : HasShape columns items group =
    subst (HasShape columns items) (sym c.group-item.is)
    (c.requires.shape c.loop-group.group-index group inside) in
    let same : map kind_of c.as_slice-in-loop-group.result.now ≡ c.loop-group.rows.kinds =
    ap (map kind_of) (c.as_slice-in-loop-group.ensures.value ∙ c.in_ok-row.ensures) ∙ shape
    ∙ sym (ap (λ (r : KindedRows). r.kinds) c.loop-group.invariant) in
    c.push.ensures.shape.0 (rw c.in-Err-WrongShape.field-0-is at c.in-Err-WrongShape.is) same

pub loop-group-preserved : goal.loop-group-preserved
loop-group-preserved c =
    let items = c.args.items.now in
    let columns = map (item_kind c.args.kinds.now) items in
    let groups = c.args.groups.now in
    let group = c.group-item.result in
    let i = c.loop-group.group-index in
    let so_far = map (item_row items) (take i groups) in
    let inside : i < length groups = omega arith in
    let row : List Value = c.as_slice-in-loop-group.result.now in
    c.in-Ok.ensures.added
    ∙ ap (λ (r : KindedRows). of_kinds r.kinds (r.rows ++ row ∷ [])) c.loop-group.invariant
    ∙ ap (λ l. of_kinds columns (so_far ++ l ∷ []))
    (c.as_slice-in-loop-group.ensures.value ∙ c.in_ok-row.ensures ∙ ap (item_row items) c.group-item.is)
    ∙ ap (of_kinds columns) (sym (map_more (item_row items) groups i group inside))
