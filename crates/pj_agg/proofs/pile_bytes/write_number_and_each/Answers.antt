use Rattle.pj_agg.proofs.ByteLemmas.{take-kept}
use Rattle.pj_agg.proofs.pile_bytes.write_number_and_each.Goals as goal

pub returns-clause-kept : goal.returns-clause-kept
returns-clause-kept g c =
    take-kept c.args.out.now.items _ c.write_number.new.out.items c.write_each.new.out.items
    c.in_ok-write_number.ensures.bytes c.write_each.ensures.kept
