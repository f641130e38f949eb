use Rattle.std.proofs.Common.{take, drop, arith}
use Rattle.pj_value.specs.declared.value.Value.TheVariants as values
use Rattle.pj_agg.proofs.ByteLemmas.{bytes-by_place, text-front}
use Rattle.pj_agg.proofs.item.TextItem.len_at_front.Goals as goal

pub returns-in-Some : goal.returns-in-Some
returns-in-Some c =
    let h = c.in-Some.ensures in
    let len = c.in-Some.len in
    let bytes = c.args.bytes.now in
    let t = text-front len bytes (bytes-by_place bytes c.type_inv.bytes) h.0 c.if-len-bytes.true h.2 in
    (omega (arith, h.0), values.Text (take len (drop 8 bytes)), t.0, t.1)
