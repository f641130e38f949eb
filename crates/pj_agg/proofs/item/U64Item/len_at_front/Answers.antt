use Rattle.std.proofs.Common.{refl}
use Rattle.pj_value.specs.declared.value.Value.TheVariants as values
use Rattle.pj_agg.proofs.item.U64Item.len_at_front.Goals as goal

pub returns-in-Some : goal.returns-in-Some
returns-in-Some c =
    let h = c.in-Some.ensures in
    (h.0, values.Num c.in-Some.field-0, (refl, h.1), h.2)
