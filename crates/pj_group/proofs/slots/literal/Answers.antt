use Rattle.std.proofs.Common.{◌≡◌, ap, ◌∙◌}
use Rattle.pj_value.specs.Values.{kind_of}
use Rattle.pj_group.proofs.SlotLemmas.{literal-kind}
use Rattle.pj_group.proofs.slots.literal.Goals as goal

pub unreachable-requires : goal.unreachable-requires
unreachable-requires c =
    let kinds = c.args.none.now.kinds in
    let same : kind_of c.in_ok-value.value ≡ c.new-column.result.kind =
    ap kind_of (c.in_ok-value.ensures ∙ c.eval_or_none.ensures)
    ∙ literal-kind kinds c.args.expr.now _ c.requires.fits c.requires.built
    ∙ (cc) in
    c.push.ensures.shape.0 (rw c.in-Err-WrongShape.field-0-is at c.in-Err-WrongShape.is) same
