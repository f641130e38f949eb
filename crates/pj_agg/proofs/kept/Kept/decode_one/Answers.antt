use Rattle.std.proofs.Common.{sym}
use Rattle.pj_agg.proofs.ByteLemmas.{bytes-by_place}
use Rattle.pj_agg.proofs.kept.Kept.decode_one.Goals as goal

pub returns-in_ok-new-in-Text-clause-whole : goal.returns-in_ok-new-in-Text-clause-whole
returns-in_ok-new-in-Text-clause-whole c =
    (sym c.in-Text.is, rw c.in_ok-new-in-Text.ensures (bytes-by_place c.args.bytes.now c.type_inv.bytes))
